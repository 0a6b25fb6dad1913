use Rattle.std.proofs.Common.{◌≡◌, ℕ, List, [], ◌∷◌, ◌++◌, length, sym, ap, subst, ◌<◌, ◌∙◌, arith}
use Rattle.row_join.proofs.GroupLaws.{with_key-old}
use Rattle.row_join.proofs.InsertLaws.{inserted-table, inserted-place, inserted-within, inserted-count, inserted-keys}
use Rattle.row_join.proofs.keys.Keys.insert.Goals as goal

pub returns-in-Some-clause-keys : goal.returns-in-Some-clause-keys
returns-in-Some-clause-keys c =
    let keys = c.args.self.now.keys in
    let found = c.in-Some.ensures.value in
    sym (with_key-old keys c.args.key.now (subst (λ (k : ℕ). k < length keys) found.0 found.1))

pub invariant_of-self-2 : goal.invariant_of-self-2
invariant_of-self-2 c =
    let r = c.self.inside in
    let at : c.len-at.result ≡ length r.earlier.items = omega (arith, c.len-at.ensures, c.reserve.new.self.ok.0, ap length c.in_ok-reserve.ensures.items) in
    let size : c.len.result ≡ length r.buckets.items = omega (arith, c.len.ensures, r.buckets.ok.0) in
    inserted-table r.state r.width r.numbers.items r.buckets.items r.earlier.items c.args.key.now c.extend_from_slice.new.self.items c.push_reserved.new.self.items c.args.self.now
    c.bucket_of-bucket.result c.len-at.result c.index.result.now c.len.result c.self.view_is c.self.invariant.0 c.self.invariant.1 c.requires.wide c.in_default.ensures.value at size
    c.bucket_of-bucket.ensures.value c.bucket_of-bucket.ensures.within c.index.ensures c.in_ok-extend_from_slice.ensures.items
    (c.push_reserved.ensures.items ∙ ap (λ (l : List ℕ). l ++ c.index.result.now ∷ []) c.in_ok-reserve.ensures.items)

pub returns-clause-place : goal.returns-clause-place
returns-clause-place c =
    let r = c.self.inside in
    let at : c.len-at.result ≡ length r.earlier.items = omega (arith, c.len-at.ensures, c.reserve.new.self.ok.0, ap length c.in_ok-reserve.ensures.items) in
    let size : c.len.result ≡ length r.buckets.items = omega (arith, c.len.ensures, r.buckets.ok.0) in
    inserted-place r.state r.width r.numbers.items r.buckets.items r.earlier.items c.args.key.now c.extend_from_slice.new.self.items c.push_reserved.new.self.items c.args.self.now
    c.bucket_of-bucket.result c.len-at.result c.index.result.now c.len.result c.self.view_is c.self.invariant.0 c.self.invariant.1 c.requires.wide c.in_default.ensures.value at size
    c.bucket_of-bucket.ensures.value c.bucket_of-bucket.ensures.within c.index.ensures c.in_ok-extend_from_slice.ensures.items
    (c.push_reserved.ensures.items ∙ ap (λ (l : List ℕ). l ++ c.index.result.now ∷ []) c.in_ok-reserve.ensures.items)

pub returns-clause-within : goal.returns-clause-within
returns-clause-within c =
    let r = c.self.inside in
    let at : c.len-at.result ≡ length r.earlier.items = omega (arith, c.len-at.ensures, c.reserve.new.self.ok.0, ap length c.in_ok-reserve.ensures.items) in
    let size : c.len.result ≡ length r.buckets.items = omega (arith, c.len.ensures, r.buckets.ok.0) in
    inserted-within r.state r.width r.numbers.items r.buckets.items r.earlier.items c.args.key.now c.extend_from_slice.new.self.items c.push_reserved.new.self.items c.args.self.now
    c.bucket_of-bucket.result c.len-at.result c.index.result.now c.len.result c.self.view_is c.self.invariant.0 c.self.invariant.1 c.requires.wide c.in_default.ensures.value at size
    c.bucket_of-bucket.ensures.value c.bucket_of-bucket.ensures.within c.index.ensures c.in_ok-extend_from_slice.ensures.items
    (c.push_reserved.ensures.items ∙ ap (λ (l : List ℕ). l ++ c.index.result.now ∷ []) c.in_ok-reserve.ensures.items)

pub returns-clause-count : goal.returns-clause-count
returns-clause-count c =
    let r = c.self.inside in
    let at : c.len-at.result ≡ length r.earlier.items = omega (arith, c.len-at.ensures, c.reserve.new.self.ok.0, ap length c.in_ok-reserve.ensures.items) in
    let size : c.len.result ≡ length r.buckets.items = omega (arith, c.len.ensures, r.buckets.ok.0) in
    inserted-count r.state r.width r.numbers.items r.buckets.items r.earlier.items c.args.key.now c.extend_from_slice.new.self.items c.push_reserved.new.self.items c.args.self.now
    c.bucket_of-bucket.result c.len-at.result c.index.result.now c.len.result c.self.view_is c.self.invariant.0 c.self.invariant.1 c.requires.wide c.in_default.ensures.value at size
    c.bucket_of-bucket.ensures.value c.bucket_of-bucket.ensures.within c.index.ensures c.in_ok-extend_from_slice.ensures.items
    (c.push_reserved.ensures.items ∙ ap (λ (l : List ℕ). l ++ c.index.result.now ∷ []) c.in_ok-reserve.ensures.items)

pub returns-clause-keys : goal.returns-clause-keys
returns-clause-keys c =
    let r = c.self.inside in
    let at : c.len-at.result ≡ length r.earlier.items = omega (arith, c.len-at.ensures, c.reserve.new.self.ok.0, ap length c.in_ok-reserve.ensures.items) in
    let size : c.len.result ≡ length r.buckets.items = omega (arith, c.len.ensures, r.buckets.ok.0) in
    inserted-keys r.state r.width r.numbers.items r.buckets.items r.earlier.items c.args.key.now c.extend_from_slice.new.self.items c.push_reserved.new.self.items c.args.self.now
    c.bucket_of-bucket.result c.len-at.result c.index.result.now c.len.result c.self.view_is c.self.invariant.0 c.self.invariant.1 c.requires.wide c.in_default.ensures.value at size
    c.bucket_of-bucket.ensures.value c.bucket_of-bucket.ensures.within c.index.ensures c.in_ok-extend_from_slice.ensures.items
    (c.push_reserved.ensures.items ∙ ap (λ (l : List ℕ). l ++ c.index.result.now ∷ []) c.in_ok-reserve.ensures.items)
