-- What loading a document returned, by what the loader returned.
use Rattle.std.proofs.Common.{◌≡◌, ℕ, true, List, [], Option, None, Result, Ok, Err, refl, sym, subst}
use Rattle.std.specs.Option.{option_eq}
use Rattle.std.specs.Result.{IfOk, IfErr, OnErr}
use Rattle.rdf_core.specs.Equality.{term_eq}
use Rattle.rdf_core.specs.QuadParts.{QuadParts}
use Rattle.nquads_core.specs.Transfer.{IsReadInPart}
use Rattle.algebra_model.specs.Algebra.{Algebra}
use Rattle.quad_filter.specs.declared.filter.QuadFilter.{QuadFilter}
use Rattle.quad_filter.specs.Filter.{keeps}
use Rattle.quad_filter.proofs.KeptLaws.{kept_are_listed, wanted_are_kept}
use Rattle.needed_quads.specs.Needed.{is_needed}
use Rattle.dataset_load.specs.Store.{StoreView}
use Rattle.dataset_load.specs.Streaming.{IsKeptLoadedFrom}
use Rattle.dataset_load.specs.declared.reader_fault.ReaderFault.{ReaderFault}
use Rattle.dataset_load.specs.declared.reader_fault.ReaderFault.TheVariants as reading
use Rattle.dataset_load.specs.ReaderFault.{CountsLoading, IfBadLineRead, IsOneWorkerReaderFault}
use Rattle.spq_core.specs.Composing.{IsBadLineFrom, IsLoading, IsNeededFrom, run_result_of}
use Rattle.spq_run.specs.declared.fault.RunFault.{RunFault}
use Rattle.dataset_load.specs.Causes.{IsCaused}
use Rattle.spq_core.specs.Causes.{IsRunCaused}
use Rattle.piece_pool.specs.declared.pool.PoolFault.{PoolFault}
use Rattle.spq_run.specs.declared.fault.RunFault.TheVariants.{BadLine}

same_line : {T : Type 0} (n m : ℕ) → ◌≡◌ {A = Result T RunFault} (Err (BadLine n)) (Err (BadLine m)) → n ≡ m
same_line n m e = cc

module _ {S T : Type 0} (left : S → Option (List ℕ)) (failures : S → Option ℕ) (loads : Option (List ℕ) → Option (List ℕ) → T → Type 0) (alone : Type 0) (reader reader' : S) where
  loading_of : (loaded : Result T ReaderFault) → IfOk loaded (loads (left reader) (left reader')) → IfErr loaded (IfBadLineRead (IsBadLineFrom (left reader) (left reader')))
      → OnErr loaded (IsReadInPart (left reader) (left reader')) → CountsLoading (failures reader) (failures reader') loaded → (alone → IfErr loaded IsOneWorkerReaderFault)
      → IsLoading left failures loads alone reader reader' (run_result_of loaded)
  loading_of (Ok value) all bad part count none = record {
    loaded = all;
    bad_line = λ n e. absurd (cc);
    taken = tt;
    read = λ e. absurd (cc);
    unfailed = λ other. count;
    query = λ f e. cc;
    write = λ e. cc;
    line = λ e. cc;
    one_worker = λ a e. cc;
  }
  loading_of (Err (reading.BadLine n)) all bad part count none = record {
    loaded = tt;
    bad_line = λ m e. subst (λ (k : ℕ). IsBadLineFrom (left reader) (left reader') k) (same_line {T = T} n m e) bad;
    taken = part;
    read = λ e. absurd (cc);
    unfailed = λ other. count;
    query = λ f e. cc;
    write = λ e. cc;
    line = λ e. cc;
    one_worker = λ a e. cc;
  }
  loading_of (Err reading.WorkerRefused) all bad part count none = record {
    loaded = tt;
    bad_line = λ n e. absurd (cc);
    taken = part;
    read = λ e. absurd (cc);
    unfailed = λ other. count;
    query = λ f e. cc;
    write = λ e. cc;
    line = λ e. cc;
    one_worker = λ a e. none a;
  }
  loading_of (Err reading.Memory) all bad part count none = record {
    loaded = tt;
    bad_line = λ n e. absurd (cc);
    taken = part;
    read = λ e. absurd (cc);
    unfailed = λ other. count;
    query = λ f e. cc;
    write = λ e. cc;
    line = λ e. cc;
    one_worker = λ a e. cc;
  }
  loading_of (Err reading.Read) all bad part count none = record {
    loaded = tt;
    bad_line = λ n e. absurd (cc);
    taken = part;
    read = λ e. count;
    unfailed = λ other. absurd (other refl);
    query = λ f e. cc;
    write = λ e. cc;
    line = λ e. cc;
    one_worker = λ a e. cc;
  }

  pub finished : (loaded : Result T ReaderFault) (result : Result T RunFault) → result ≡ run_result_of loaded → IfOk loaded (loads (left reader) (left reader'))
      → IfErr loaded (IfBadLineRead (IsBadLineFrom (left reader) (left reader'))) → OnErr loaded (IsReadInPart (left reader) (left reader'))
      → CountsLoading (failures reader) (failures reader') loaded → (alone → IfErr loaded IsOneWorkerReaderFault) → IsLoading left failures loads alone reader reader' result
  finished loaded result is all bad part count none =
      subst (λ (r : Result T RunFault). IsLoading left failures loads alone reader reader' r) (sym is) (loading_of loaded all bad part count none)

-- the cause of a load is that of a run
pub caused : {T : Type 0} (fails : PoolFault → Type 0) (left : Option (List ℕ)) (loaded : Result T ReaderFault) (result : Result T RunFault) → result ≡ run_result_of loaded
    → IfErr loaded (IsCaused fails left) → IfErr result (IsRunCaused fails left)
caused {T = T} fails left loaded result is h = subst (λ (r : Result T RunFault). IfErr r (IsRunCaused fails left)) (sym is) (by loaded h)
  where
    by : (loaded : Result T ReaderFault) → IfErr loaded (IsCaused fails left) → IfErr (run_result_of loaded) (IsRunCaused fails left)
    by (Ok value) h = tt
    by (Err (reading.BadLine n)) h = tt
    by (Err reading.WorkerRefused) h = h
    by (Err reading.Memory) h = h
    by (Err reading.Read) h = tt

-- ---- loading what is needed

-- the quads that a filter keeps are those that an expression needs, and perhaps others, if it keeps each that is needed
pub needed_from : (filter : QuadFilter) (A : Algebra) (left left' : Option (List ℕ)) (store : StoreView)
    → ((q : QuadParts) → is_needed q (option_eq term_eq q.g None) [] A ≡ true → keeps filter q ≡ true)
    → IsKeptLoadedFrom filter left left' store → IsNeededFrom A left left' store
needed_from filter A left left' store wanted h = record {
  doc = h.doc;
  consumed = h.consumed;
  at_end = h.at_end;
  all = h.loaded.all;
  statements = h.loaded.statements;
  needed = record {
    within = λ q has. kept_are_listed (keeps filter) h.loaded.all h.loaded.quads q h.loaded.kept ((h.loaded.store_of.dataset q).0 has);
    needed = λ q has need. (h.loaded.store_of.dataset q).1 (wanted_are_kept (keeps filter) h.loaded.all h.loaded.quads q h.loaded.kept has (wanted q need));
  };
}

module _ {S T : Type 0} (left : S → Option (List ℕ)) (failures : S → Option ℕ) (loads loads' : Option (List ℕ) → Option (List ℕ) → T → Type 0) (alone : Type 0) (reader reader' : S) where
  -- what follows from what is known of a value that was loaded is known of it
  pub loaded_as : ((value : T) → loads (left reader) (left reader') value → loads' (left reader) (left reader') value)
      → (result : Result T RunFault) → IsLoading left failures loads alone reader reader' result → IsLoading left failures loads' alone reader reader' result
  loaded_as follows result h = record {
    loaded = by result h.loaded;
    bad_line = h.bad_line;
    taken = h.taken;
    read = h.read;
    unfailed = h.unfailed;
    query = h.query;
    write = h.write;
    line = h.line;
    one_worker = h.one_worker;
  }
    where
      by : (result : Result T RunFault) → IfOk result (loads (left reader) (left reader')) → IfOk result (loads' (left reader) (left reader'))
      by (Ok value) known = follows value known
      by (Err fault) known = tt
