-- What another key makes of the fields of a table of keys.
use Rattle.std.proofs.Common.{◌≡◌, ℕ, ◌+◌, ◌*◌, ◌<◌, ◌≤◌, List, [], ◌∷◌, ◌++◌, length, get_or, set, max, sym, ap, subst, ◌∙◌, arith}
use Rattle.std.proofs.lemmas.List.{get_or_read, length-append, length-set}
use Rattle.keyed_hash.specs.declared.HashState.{HashState}
use Rattle.row_core.specs.RowList.{rows_in}
use Rattle.row_core.proofs.RowSteps.{length-rows_in}
use Rattle.row_join.specs.KeyTable.{IsKeyTable, KeyList, bucket_of, place_of, with_key}
use Rattle.row_join.proofs.GroupLaws.{with_key-new}
use Rattle.row_join.proofs.KeyTableLaws.{keys-more, long-more, table-more}

module _ (state : HashState) (w : ℕ) (numbers buckets earlier key numbers' earlier' : List ℕ) (v : KeyList) (b at link size : ℕ)
    (is : record { width = w; keys = rows_in w w (length earlier) numbers } ≡ v)
    (long : length numbers ≡ length earlier * w) (table : IsKeyTable (bucket_of state (length buckets)) (rows_in w w (length earlier) numbers) buckets earlier)
    (wide : length key ≡ v.width) (absent : length v.keys ≡ place_of key v.keys) (at_is : at ≡ length earlier) (size_is : size ≡ length buckets)
    (b_is : b ≡ bucket_of state size key) (low : b < size) (link_is : link ≡ get_or buckets b link)
    (n : numbers' ≡ numbers ++ key) (e : earlier' ≡ earlier ++ link ∷ []) where
  own_wide : length key ≡ w
  own_wide = wide ∙ sym (ap (λ (k : KeyList). k.width) is)

  count : length v.keys ≡ length earlier
  count = sym (ap (λ (k : KeyList). length k.keys) is) ∙ length-rows_in w w (length earlier) numbers

  own_absent : length earlier ≡ place_of key (rows_in w w (length earlier) numbers)
  own_absent = sym count ∙ absent ∙ sym (ap (λ (k : KeyList). place_of key k.keys) is)

  pub inserted-table : (length numbers' ≡ length earlier' * w)
      × IsKeyTable (bucket_of state (length (set buckets b (at + 1)))) (rows_in w w (length earlier') numbers') (set buckets b (at + 1)) earlier'
  inserted-table =
      let inside : b < length buckets = omega arith in (
        long-more w numbers earlier key numbers' earlier' long own_wide link n e,
        subst (λ (k : ℕ). IsKeyTable (bucket_of state k) (rows_in w w (length earlier') numbers') (set buckets b (at + 1)) earlier') (sym (length-set buckets b (at + 1)))
            (table-more w numbers earlier key numbers' earlier' long own_wide link n e (bucket_of state (length buckets)) buckets (set buckets b (at + 1)) b table
            (b_is ∙ ap (λ (k : ℕ). bucket_of state k key) size_is) inside own_absent
            (get_or_read buckets b link inside link_is 0) (ap (λ (k : ℕ). set buckets b (k + 1)) at_is)),
      )

  pub inserted-place : at ≡ place_of key v.keys
  inserted-place = at_is ∙ sym count ∙ absent

  pub inserted-within : at ≤ length v.keys
  inserted-within = omega (arith, count)

  pub inserted-keys : rows_in w w (length earlier') numbers' ≡ with_key v.keys key
  inserted-keys =
      keys-more w numbers earlier key numbers' earlier' long own_wide link n e
      ∙ ap (λ (k : KeyList). k.keys ++ key ∷ []) is
      ∙ sym (with_key-new v.keys key absent)

  pub inserted-count : length (rows_in w w (length earlier') numbers') ≡ max (length v.keys) (at + 1)
  inserted-count =
      let c : length (rows_in w w (length earlier') numbers') ≡ length v.keys + 1 =
      ap length (inserted-keys ∙ with_key-new v.keys key absent) ∙ length-append v.keys (key ∷ []) in
      omega (arith, count, c)
