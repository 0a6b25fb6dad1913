-- How composing an output follows from loading a document, and a run from composing.
use Rattle.std.proofs.Common.{◌≡◌, inr, ℕ, List, Option, Result, Ok, Err, Vec, Global, length, refl, sym, ap, subst, ◌∙◌}
use Rattle.std.proofs.lemmas.List.{length-map}
use Rattle.std.specs.Result.{IfOk, IfErr}
use Rattle.nquads_core.specs.declared.device.DeviceFailed.{DeviceFailed}
use Rattle.std.specs.Io.KnownBytes.{Appends}
use Rattle.nquads_core.specs.Device.{Stays}
use Rattle.nquads_core.specs.Transfer.{IsReadInPart, WroteBeginning}
use Rattle.rdf_core.specs.Serialization.{serialization}
use Rattle.text_dict.specs.TextDict.{TextDictView}
use Rattle.dataset_load.specs.declared.counted.Counted.{Counted}
use Rattle.dataset_load.specs.Store.{StoreView}
use Rattle.dataset_load.specs.Counted.{AreTermsFrom, IsCountedFrom}
use Rattle.result_json.specs.Results.{joined_blocks}
use Rattle.spq_core.specs.Output.{Request, select, check, terms}
use Rattle.spq_core.specs.Listing.{counts_line, text_lines}
use Rattle.spq_core.specs.Run.{IsAnswerable, IsBadLineOf, IsComposed, IsRun}
use Rattle.spq_run.specs.Writing.{WriterFailed}
use Rattle.algebra_model.specs.Algebra.{Algebra}
use Rattle.spq_core.specs.Composing.{IsBadLineFrom, IsComposing, IsLoadedFrom, IsLoading, IsNeededFrom}
use Rattle.spq_core.proofs.DocumentSteps.{composed_check, composed_terms}
use Rattle.spq_run.specs.declared.fault.RunFault.{RunFault}
use Rattle.spq_run.specs.declared.fault.RunFault.TheVariants.{Memory, WorkerRefused, Write}

pub part_loaded : (left left' : Option (List ℕ)) (store : StoreView) → IsLoadedFrom left left' store → IsReadInPart left left'
part_loaded left left' store h = record { taken = h.doc; consumed = h.consumed }

pub part_needed : (A : Algebra) (left left' : Option (List ℕ)) (store : StoreView) → IsNeededFrom A left left' store → IsReadInPart left left'
part_needed A left left' store h = record { taken = h.doc; consumed = h.consumed }

module _ {S T : Type 0} (left : S → Option (List ℕ)) (failures : S → Option ℕ) (loads : Option (List ℕ) → Option (List ℕ) → T → Type 0) (request : Request) (alone : Type 0) (reader reader' : S) where
  -- a document that was not loaded gives no output
  pub not_loaded : (f : RunFault) → IsAnswerable request → ((n : ℕ) → IsBadLineFrom (left reader) (left reader') n → IsBadLineOf request (left reader) (left reader') n)
      → IsLoading left failures loads alone reader reader' (Err f) → IsComposing left failures request alone reader reader' (Err f)
  not_loaded f answerable bad h = record {
    composed = tt;
    query = λ q e. absurd (h.query q (cc));
    query_first = inr answerable;
    answerable = λ e. answerable;
    bad_line = λ n e. bad n (h.bad_line n (cc));
    taken = h.taken;
    read = λ e. h.read (cc);
    unfailed = λ other. h.unfailed (λ e. other (cc));
    write = λ e. h.write (cc);
    line = λ e. h.line (cc);
    one_worker = λ a e. h.one_worker a (cc);
  }

  -- of a document that was loaded an output is composed, or memory runs out
  pub loaded : (value : T) → IsAnswerable request → IsReadInPart (left reader) (left reader') → IsLoading left failures loads alone reader reader' (Ok value)
      → (result : Result (Vec (Vec ℕ Global) Global) RunFault)
      → IfOk result (λ blocks. IsComposed request (left reader) (left reader') (joined_blocks blocks.items)) → IfErr result (λ f. f ≡ Memory) → IsComposing left failures request alone reader reader' result
  loaded value answerable part h (Ok blocks) c m = record {
    composed = c;
    query = λ q e. absurd (cc);
    query_first = tt;
    answerable = λ e. answerable;
    bad_line = λ n e. absurd (cc);
    taken = tt;
    read = λ e. absurd (cc);
    unfailed = λ other. h.unfailed (λ e. cc);
    write = λ e. cc;
    line = λ e. cc;
    one_worker = λ a e. cc;
  }
  loaded value answerable part h (Err f) c m = record {
    composed = tt;
    query = λ q e. absurd (cc);
    query_first = inr answerable;
    answerable = λ e. answerable;
    bad_line = λ n e. absurd (cc);
    taken = part;
    read = λ e. absurd (cc);
    unfailed = λ other. h.unfailed (λ e. cc);
    write = λ e. cc;
    line = λ e. cc;
    one_worker = λ a e. cc;
  }

module _ {S : Type 0} (left : S → Option (List ℕ)) (failures : S → Option ℕ) (alone : Type 0) (reader reader' : S) where
  pub counted : (counts : Counted) → IsLoading left failures IsCountedFrom alone reader reader' (Ok counts) → (result : Result (Vec (Vec ℕ Global) Global) RunFault)
      → IfOk result (λ blocks. joined_blocks blocks.items ≡ counts_line counts.quads (length counts.dict.texts) counts.graphs) → IfErr result (λ f. f ≡ Memory)
      → IsComposing left failures check alone reader reader' result
  counted counts h (Ok blocks) e m =
      loaded left failures IsCountedFrom check alone reader reader' counts tt (part_loaded (left reader) (left reader') h.loaded.store h.loaded.loaded) h (Ok blocks)
      (composed_check (left reader) (left reader') h.loaded.store (joined_blocks blocks.items) h.loaded.loaded
      (e ∙ (λ i. counts_line (h.loaded.counts.quads i) ((ap length h.loaded.counts.terms ∙ length-map h.loaded.store.dict serialization) i) (h.loaded.counts.graphs i)))) tt
  counted counts h (Err f) e m =
      loaded left failures IsCountedFrom check alone reader reader' counts tt (part_loaded (left reader) (left reader') h.loaded.store h.loaded.loaded) h (Err f) tt m

  pub listed : (dict : TextDictView) → IsLoading left failures AreTermsFrom alone reader reader' (Ok dict) → (result : Result (Vec (Vec ℕ Global) Global) RunFault)
      → IfOk result (λ blocks. joined_blocks blocks.items ≡ text_lines dict.texts) → IfErr result (λ f. f ≡ Memory) → IsComposing left failures terms alone reader reader' result
  listed dict h (Ok blocks) e m =
      loaded left failures AreTermsFrom terms alone reader reader' dict tt (part_loaded (left reader) (left reader') h.loaded.store h.loaded.loaded) h (Ok blocks)
      (composed_terms (left reader) (left reader') h.loaded.store dict.texts (joined_blocks blocks.items) h.loaded.loaded h.loaded.same e) tt
  listed dict h (Err f) e m =
      loaded left failures AreTermsFrom terms alone reader reader' dict tt (part_loaded (left reader) (left reader') h.loaded.store h.loaded.loaded) h (Err f) tt m

-- where no output was composed, nothing is written
pub not_composed : {S K T : Type 0} (left : S → Option (List ℕ)) (failures : S → Option ℕ) (held : K → Option (List ℕ)) (write_failures : K → Option ℕ)
    (gives : K → List ℕ → Result ℕ DeviceFailed → K → Type 0) (request : Request) (alone : Type 0) (reader reader' : S) (writer : K) (f : RunFault)
    → IsComposing left failures request alone reader reader' (Err f) → IsRun {T = T} left failures held write_failures gives request reader reader' writer writer (Err f)
not_composed left failures held write_failures gives request alone reader reader' writer f h = record {
  done = tt;
  query = λ q e. h.query q (cc);
  query_first = h.query_first;
  bad_line = λ n e. h.bad_line n (cc);
  taken = h.taken;
  read = λ e. h.read (cc);
  unfailed = λ other. h.unfailed (λ e. other (cc));
  write = λ e. absurd (h.write (cc));
  write_count = tt;
  unwritten = λ other. refl;
  line = λ e. h.line (cc);
}

-- what was composed says that the command can be done
composed_answerable : (request : Request) (left left' : Option (List ℕ)) (text : List ℕ) → IsComposed request left left' text → IsAnswerable request
composed_answerable (select query) left left' text h = (h.output.query, h.output.read)
composed_answerable check left left' text h = tt
composed_answerable terms left left' text h = tt

composed_borrowed : (request : Request) (left left' : Option (List ℕ)) (blocks : Vec (Vec ℕ Global) Global) (borrowed : List (Vec ℕ Global)) → borrowed ≡ blocks.items
    → IsComposed request left left' (joined_blocks blocks.items) → IsComposed request left left' (joined_blocks borrowed)
composed_borrowed request left left' blocks borrowed is h = subst (λ (bs : List (Vec ℕ Global)). IsComposed request left left' (joined_blocks bs)) (sym is) h

module _ {S K T : Type 0} (left : S → Option (List ℕ)) (failures : S → Option ℕ) (held : K → Option (List ℕ)) (write_failures : K → Option ℕ) (gives : K → List ℕ → Result ℕ DeviceFailed → K → Type 0)
    (request : Request) (alone : Type 0) (reader reader' : S) (writer writer' : K) (blocks : Vec (Vec ℕ Global) Global) (borrowed : List (Vec ℕ Global)) (is : borrowed ≡ blocks.items)
    (h : IsComposing left failures request alone reader reader' (Ok blocks)) where
  -- all blocks were written
  pub run_done : (value : T) → Appends (held writer) (held writer') (joined_blocks borrowed) → Stays (write_failures writer) (write_failures writer') → IsRun left failures held write_failures gives request reader reader' writer writer' (Ok value)
  run_done value written stays = record {
    done = record { text = joined_blocks borrowed; composed = composed_borrowed request (left reader) (left reader') blocks borrowed is h.composed; written = written };
    query = λ q e. absurd (cc);
    query_first = tt;
    bad_line = λ n e. absurd (cc);
    taken = tt;
    read = λ e. absurd (cc);
    unfailed = λ other. h.unfailed (λ e. cc);
    write = λ e. absurd (cc);
    write_count = stays;
    unwritten = λ other. tt;
    line = λ e. cc;
  }

  -- the writer failed
  pub run_failed : WroteBeginning (held writer) (held writer') (joined_blocks borrowed) → WriterFailed gives (write_failures writer) (write_failures writer') (held writer) (held writer') (joined_blocks borrowed) writer'
      → IsRun {T = T} left failures held write_failures gives request reader reader' writer writer' (Err Write)
  run_failed part failed =
      let c = composed_borrowed request (left reader) (left reader') blocks borrowed is h.composed in
      record {
        done = tt;
        query = λ q e. absurd (cc);
        query_first = inr (composed_answerable request (left reader) (left reader') (joined_blocks borrowed) c);
        bad_line = λ n e. absurd (cc);
        taken = record { taken = c.doc; consumed = c.consumed };
        read = λ e. absurd (cc);
        unfailed = λ other. h.unfailed (λ e. cc);
        write = λ e. record { text = joined_blocks borrowed; composed = c; part = part; failed = failed };
        write_count = tt;
        unwritten = λ other. absurd (other refl);
        line = λ e. cc;
      }
