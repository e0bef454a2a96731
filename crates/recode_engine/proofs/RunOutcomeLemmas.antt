-- A run as a whole, by how it has ended.
use Rattle.std.proofs.Common.{◌≡◌, ℕ, ◌^◌, ◌<◌, Bool, true, false, ◌||◌, List, [], ◌∷◌}
use Rattle.std.proofs.Common.{length, nat_eq, Option, Some, None, refl, ap, ◌∙◌, sym}
use Rattle.std.proofs.Common.{arith}
use Rattle.std.proofs.lemmas.Bool.{false≢true, eqb-false}
use Rattle.std.proofs.lemmas.Bool.Decides.{nat_tests}
use Rattle.std.specs.Prelude.{IsErr, IsErrOf, IfSome, OnErr, Ok, Err}
use Rattle.std.specs.declared.result.Result.{Result}
use Rattle.enc_stream.specs.declared.bom.BomHandling.{BomHandling}
use Rattle.enc_stream.specs.declared.encoding.Encoding.{Encoding}
use Rattle.enc_reader.specs.declared.decode_reader.ReadFault.{ReadFault}
use Rattle.enc_reader.specs.declared.decode_reader.ReadFault.TheVariants as fault
use Rattle.enc_reader.specs.Reading.{ReaderState, HandsOut}
use Rattle.std.proofs.KnownBytes.{Consumes-nil}
use Rattle.recode_engine.specs.declared.engine.RecodeFault.{RecodeFault}
use Rattle.recode_engine.specs.declared.engine.RecodeFault.TheVariants as side_fault
use Rattle.enc_stream.specs.Recoding.{recoded_bytes}
use Rattle.recode_engine.specs.Run.{IsRecodeRun, Side, RunsToEnd, RunsToFault, WritesDetermined}
use Rattle.enc_writer.proofs.SinkLemmas.{AppendsContents-none}

-- a text that is empty, and one that isn't
pub no_text : (text : List ℕ) → nat_eq (length text) 0 ≡ true → text ≡ []
no_text [] e = refl
no_text (b ∷ text) e = absurd (grind (arith, nat_tests))

pub some_text : (text : List ℕ) → nat_eq (length text) 0 ≡ false → 0 < length text
some_text text e = omega (arith, eqb-false (length text) 0 e)

-- the text handed out, where it is known by another name
pub HandsOut-by : {t₁ t₂ : Option (List ℕ)} {a b : ReaderState} {text wrote : List ℕ} {m₁ m₂ : Bool}
    → text ≡ wrote
    → HandsOut t₁ t₂ a b wrote m₁ m₂ → HandsOut t₁ t₂ a b text m₁ m₂
HandsOut-by e h = rw e h

-- A read that fails, of a reader that had not failed, reports a fault of its source.
pub is_readers : {T : Type 0} (r : Result T ReadFault) → IsErr r → (IsErrOf r fault.Failed → ⊥)
    → IsErrOf r fault.Reader
is_readers (Ok n) e f = absurd (false≢true e)
is_readers (Err fault.Reader) e f = refl
is_readers (Err fault.Failed) e f = absurd (f refl)

-- what a clause says of an error, where there is one
pub when_err : {T E P : Type 0} (r : Result T E) → IsErr r → OnErr r P → P
when_err (Ok x) e says = absurd (false≢true e)
when_err (Err f) e says = says

module _ {handling : BomHandling} {from to : Encoding} where
  -- the same, where the flag is known by another name
  pub RunsToEnd-by : {t₀ t k₀ k : Option (List ℕ)} {r replaced : Bool} → replaced ≡ r
      → RunsToEnd handling from to t₀ t k₀ k r → RunsToEnd handling from to t₀ t k₀ k replaced
  RunsToEnd-by flag ends = rw flag ends

  -- the same, where the source is known by other names, and where the sink is
  pub IsRecodeRun-source : {s₀ s₁ s₂ s₃ k₀ k : Side} {r : Result Bool RecodeFault} → s₂ ≡ s₀
      → s₃ ≡ s₁ → IsRecodeRun handling from to s₀ s₁ k₀ k r
      → IsRecodeRun handling from to s₂ s₃ k₀ k r
  IsRecodeRun-source before after ran = rw (before, after) ran

  pub IsRecodeRun-sink : {s₀ s k₀ k₁ k₂ k₃ : Side} {r : Result Bool RecodeFault} → k₂ ≡ k₀
      → k₃ ≡ k₁ → IsRecodeRun handling from to s₀ s k₀ k₁ r
      → IsRecodeRun handling from to s₀ s k₂ k₃ r
  IsRecodeRun-sink before after ran = rw (before, after) ran

IfSome-always : (known : Option (List ℕ)) {P : List ℕ → Type 0} → ((all : List ℕ) → P all)
    → IfSome known P
IfSome-always None h = tt
IfSome-always (Some all) h = h all

same_fault : {one two : RecodeFault} → IsErrOf {T = Bool} (Err one) two → one ≡ two
same_fault is = cc

neither_failed : {a b : Bool} {P : Type 0} → a ≡ false → b ≡ false → (a || b) ≡ true → P
neither_failed first second failed = absurd (false≢true (rw (first, second) at failed))

-- a run that is begun, since neither side has failed before
module _ {handling : BomHandling} {from to : Encoding}
    {source_before source_after sink_before sink_after : Side}
    (source_going : source_before.has_failed ≡ false)
    (sink_going : sink_before.has_failed ≡ false) where
  pub IsRecodeRun-ok : {r : Result Bool RecodeFault} {replaced : Bool} → r ≡ Ok replaced
      → RunsToEnd handling from to source_before.bytes source_after.bytes sink_before.bytes
      sink_after.bytes
      replaced
      → source_after.has_failed ≡ source_before.has_failed
      → sink_after.has_failed ≡ sink_before.has_failed
      → IsRecodeRun handling from to source_before source_after sink_before sink_after r
  IsRecodeRun-ok {replaced = replaced} e ends source sink =
      rw e (record {
        ok = ends;
        source_kept = source;
        sink_kept = sink;
        err = tt;
        read_fault = λ f. cc;
        write_fault = λ f. cc;
        all_written = λ f. cc;
        read_alone = λ f. cc;
        write_alone = λ f. cc;
        failed_source = λ f. absurd (false≢true (sym source_going ∙ f));
        failed_sink = λ _ f. absurd (false≢true (sym sink_going ∙ f));
        not_begun = λ f. neither_failed source_going sink_going f;
      })

  -- and that a fault of a side stops
  pub IsRecodeRun-fault : {r : Result Bool RecodeFault} (fault : RecodeFault) → r ≡ Err fault
      → RunsToFault handling from to source_before.bytes source_after.bytes sink_before.bytes
      sink_after.bytes
      → (fault ≡ side_fault.Read → IfSome source_before.bytes
      (λ all. length all < 2 ^ 62 → source_after.has_failed ≡ true)
      × (sink_after.has_failed ≡ sink_before.has_failed)
      × (source_after.has_failed ≡ true → WritesDetermined handling from to source_before.bytes
      source_after.bytes sink_before.bytes sink_after.bytes))
      → (fault ≡ side_fault.Write → (sink_after.has_failed ≡ true)
      × (source_after.has_failed ≡ source_before.has_failed))
      → IsRecodeRun handling from to source_before source_after sink_before sink_after r
  IsRecodeRun-fault fault e stops read write =
      rw e (record {
        ok = tt;
        source_kept = tt;
        sink_kept = tt;
        err = stops;
        read_fault = λ is. (read (same_fault is)).0;
        write_fault = λ is. (write (same_fault is)).0;
        all_written = λ is _ failed. (read (same_fault is)).2 failed;
        read_alone = λ is. (read (same_fault is)).1;
        write_alone = λ is. (write (same_fault is)).1;
        failed_source = λ f. absurd (false≢true (sym source_going ∙ f));
        failed_sink = λ _ f. absurd (false≢true (sym sink_going ∙ f));
        not_begun = λ f. neither_failed source_going sink_going f;
      })

-- a run that is not begun, since the side that is named has failed before
pub IsRecodeRun-not_begun : {handling : BomHandling} {from to : Encoding} {source sink : Side}
    (fault : RecodeFault)
    → (fault ≡ side_fault.Read → source.has_failed ≡ true)
    → (fault ≡ side_fault.Write → sink.has_failed ≡ true)
    → (source.has_failed ≡ true → fault ≡ side_fault.Read)
    → (source.has_failed ≡ false → sink.has_failed ≡ true → fault ≡ side_fault.Write)
    → IsRecodeRun handling from to source source sink sink (Err fault)
IsRecodeRun-not_begun {handling} {from} {to} {source} {sink} fault read write source_first
    sink_then = record {
      ok = tt;
      source_kept = tt;
      sink_kept = tt;
      err = record {
        bytes = [];
        given = Consumes-nil source.bytes;
        ended = false;
        none_left = λ e. absurd (false≢true e);
        wrote = [];
        written = AppendsContents-none sink.bytes;
        prefix = λ z h. (recoded_bytes handling from to z, refl);
      };
      read_fault = λ is. IfSome-always source.bytes (λ all few. read (same_fault is));
      write_fault = λ is. write (same_fault is);
      all_written = λ is going. absurd (false≢true (sym going ∙ read (same_fault is)));
      read_alone = λ _. refl;
      write_alone = λ _. refl;
      failed_source = λ failed. ap Err (source_first failed);
      failed_sink = λ going failed. ap Err (sink_then going failed);
      not_begun = λ _. (refl, refl);
    }
