-- The parts that the calls of a run do, and what follows of each part holds of all.
use Rattle.std.proofs.Common.{◌≡◌, ℕ, ◌+◌, Bool, true, false, List, [], ◌∷◌, ◌++◌, map, refl, ap, ◌∙◌, sym}
use Rattle.std.proofs.Common.{append_assoc, append-nil}
use Rattle.std.specs.Prelude.{if◌then◌else◌}
use Rattle.std.proofs.lemmas.Bool.{and_parts, not-true}
use Rattle.encoding_rs.specs.Runs.{IsRun, all_report, RunPart, done_of_parts, reported_from}

-- Each call does the first part of what is to come, from an offset on.
pub record DoesParts {C S X : Type 0} (Advances : C → S → S → Type 0) (Keeps : S → Type 0)
    (to_come : S → List X) (place : S → ℕ) (size : List X → ℕ) : Type 0 where
  pub replaces : C → Bool
  pub keeps_on : (call : C) (old new : S) → Keeps old → Advances call old new → Keeps new
  pub done : (call : C) (old new : S) → Keeps old → Advances call old new → List X
  pub takes_first : (call : C) (old new : S) (keeps : Keeps old) (advances : Advances call old new)
      → to_come old ≡ done call old new keeps advances ++ to_come new
  pub offset : (call : C) (old new : S) (keeps : Keeps old) (advances : Advances call old new)
      → place old + size (done call old new keeps advances) ≡ place new

module _ {C S X : Type 0} {Advances : C → S → S → Type 0} {Keeps : S → Type 0}
    {to_come : S → List X} {place : S → ℕ} {size : List X → ℕ}
    (does : DoesParts Advances Keeps to_come place size) where
  -- the parts, one a call
  abbrev pub parts_of : (calls : List C) (old new : S) → Keeps old → IsRun Advances calls old new
      → List (RunPart X)
  parts_of [] old new keeps run = []
  parts_of (call ∷ calls) old new keeps run =
      record { replaces = does.replaces call; done = does.done call old run.0 keeps run.1 }
      ∷ parts_of calls run.0 new (does.keeps_on call old run.0 keeps run.1) run.2

  pub modes_of : (calls : List C) (old new : S) (keeps : Keeps old)
      (run : IsRun Advances calls old new)
      → map (λ (p : RunPart X). p.replaces) (parts_of calls old new keeps run)
      ≡ map does.replaces calls
  modes_of [] old new keeps run = refl
  modes_of (call ∷ calls) old new keeps run = ap (λ modes. does.replaces call ∷ modes)
      (modes_of calls run.0 new (does.keeps_on call old run.0 keeps run.1) run.2)

  -- what all parts have done comes first
  pub takes_parts : (calls : List C) (old new : S) (keeps : Keeps old)
      (run : IsRun Advances calls old new)
      → to_come old ≡ done_of_parts (parts_of calls old new keeps run) ++ to_come new
  takes_parts [] old new keeps run = ap to_come run
  takes_parts (call ∷ calls) old new keeps run =
      let later = does.keeps_on call old run.0 keeps run.1 in
      let first = does.done call old run.0 keeps run.1 in
      does.takes_first call old run.0 keeps run.1
      ∙ ap (λ xs. first ++ xs) (takes_parts calls run.0 new later run.2)
      ∙ sym (append_assoc first (done_of_parts (parts_of calls run.0 new later run.2))
      (to_come new))

  -- what the calls report, one after another
  pub reports_parts : {R : Type 0} (report : ℕ → List X → List R) (seen : S → List R)
      → ((call : C) (old new : S) (keeps : Keeps old) (advances : Advances call old new)
      → seen new ≡ seen old ++ (if does.replaces call then []
      else report (place old) (does.done call old new keeps advances)))
      → (calls : List C) (old new : S) (keeps : Keeps old) (run : IsRun Advances calls old new)
      → seen new ≡ seen old
      ++ reported_from report size (place old) (parts_of calls old new keeps run)
  reports_parts report seen one [] old new keeps run =
      ap seen (sym run) ∙ sym (append-nil (seen old))
  reports_parts report seen one (call ∷ calls) old new keeps run =
      let later = does.keeps_on call old run.0 keeps run.1 in
      let others = parts_of calls run.0 new later run.2 in
      let reported = if does.replaces call then []
      else report (place old) (does.done call old run.0 keeps run.1) in
      reports_parts report seen one calls run.0 new later run.2
      ∙ ap (λ xs. xs ++ reported_from report size (place run.0) others)
      (one call old run.0 keeps run.1)
      ∙ append_assoc (seen old) reported (reported_from report size (place run.0) others)
      ∙ ap (λ n. seen old ++ (reported ++ reported_from report size n others))
      (sym (does.offset call old run.0 keeps run.1))

  -- what the calls add up to, by an operation that joins what two parts add
  pub adds_up : {A : Type 0} (join : A → A → A) (of : List X → A) (seen : S → A)
      → ((a : A) → join a (of []) ≡ a)
      → ((a b c : A) → join (join a b) c ≡ join a (join b c))
      → ((xs ys : List X) → of (xs ++ ys) ≡ join (of xs) (of ys))
      → ((call : C) (old new : S) (keeps : Keeps old) (advances : Advances call old new)
      → seen new ≡ join (seen old) (of (does.done call old new keeps advances)))
      → (calls : List C) (old new : S) (keeps : Keeps old) (run : IsRun Advances calls old new)
      → seen new ≡ join (seen old) (of (done_of_parts (parts_of calls old new keeps run)))
  adds_up join of seen unit assoc append one [] old new keeps run =
      ap seen (sym run) ∙ sym (unit (seen old))
  adds_up join of seen unit assoc append one (call ∷ calls) old new keeps run =
      let later = does.keeps_on call old run.0 keeps run.1 in
      let first = does.done call old run.0 keeps run.1 in
      let others = done_of_parts (parts_of calls run.0 new later run.2) in
      adds_up join of seen unit assoc append one calls run.0 new later run.2
      ∙ ap (λ a. join a (of others)) (one call old run.0 keeps run.1)
      ∙ assoc (seen old) (of first) (of others)
      ∙ ap (join (seen old)) (sym (append first others))

-- If all calls report, the reports are those of all that is done.
module _ {C X R : Type 0} (replaces : C → Bool) (report : ℕ → List X → List R) (size : List X → ℕ)
    (none : (at : ℕ) → report at [] ≡ [])
    (append : (at : ℕ) (xs ys : List X)
    → report at (xs ++ ys) ≡ report at xs ++ report (at + size xs) ys) where
  pub all_reported : (at : ℕ) (parts : List (RunPart X)) (calls : List C)
      → map (λ (p : RunPart X). p.replaces) parts ≡ map replaces calls
      → all_report replaces calls ≡ true
      → reported_from report size at parts ≡ report at (done_of_parts parts)
  all_reported at [] calls same_modes all_report = sym (none at)
  all_reported at (p ∷ ps) [] same_modes all_report = absurd (let no : ⊥ = cc in no)
  all_reported at (p ∷ ps) (c ∷ cs) same_modes all_report =
      let same_mode : p.replaces ≡ replaces c = cc in
      let same_rest : map (λ (q : RunPart X). q.replaces) ps ≡ map replaces cs = cc in
      let both = and_parts _ _ all_report in
      let reports : p.replaces ≡ false = same_mode ∙ not-true (replaces c) both.0 in
      rw reports
      (ap (λ xs. report at p.done ++ xs) (all_reported (at + size p.done) ps cs same_rest both.1)
      ∙ sym (append at p.done (done_of_parts ps)))
