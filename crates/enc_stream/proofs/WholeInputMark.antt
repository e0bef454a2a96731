-- The byte order mark of a whole input, by the search at its start.
use Rattle.std.proofs.Common.{◌≡◌, ℕ, ◌≤◌, true, List, [], ◌∷◌, ◌++◌, length, take, drop, refl, ap, ◌∙◌, sym}
use Rattle.std.proofs.Common.{Some, None, arith, length-take, append-nil, subst}
use Rattle.std.proofs.lemmas.List.{take-append-drop}
use Rattle.enc_stream.specs.declared.bom.BomHandling.{BomHandling}
use Rattle.enc_stream.specs.declared.encoding.Encoding.{Encoding}
use Rattle.enc_stream.specs.declared.life_cycle.LifeCycle.{LifeCycle}
use Rattle.enc_stream.specs.Bom.{find_mark, marks_looked_for}
use Rattle.enc_stream.specs.LifeCycle.{marks_of, held_mark_bytes, start_life}
use Rattle.enc_stream.specs.Decoding.{whole_encoding}
use Rattle.enc_stream.specs.OwnText.{unmarked_bytes}
use Rattle.enc_stream.specs.Sniffing.{ExtendsHeldMark, CompletesMark, HasNoMark}
use Rattle.enc_stream.proofs.LifeCycleLemmas.{starts}
use Rattle.enc_stream.proofs.SniffingLemmas.{found_later}

-- where text comes after the bytes held, no mark is found
none_found : (life now : LifeCycle) (x rest : List ℕ) → held_mark_bytes life ≡ []
    → ExtendsHeldMark life now x → HasNoMark now rest true
    → find_mark (marks_of life) (x ++ rest) ≡ None
none_found life now x [] none_held extends no_mark =
    let held : x ≡ held_mark_bytes now = rw none_held at extends.held in
    rw (append-nil, held) extends.unmarked
none_found life now x (b ∷ z) none_held extends no_mark =
    let held : x ≡ held_mark_bytes now = rw none_held at extends.held in
    rw held (found_later life now extends (b ∷ z) ∙ (no_mark.rules_out b z refl).no_mark z)

module _ (handling : BomHandling) (e : Encoding) (bytes : List ℕ) (len : ℕ) where
  -- no mark
  pub without_mark : (now : LifeCycle)
      → ExtendsHeldMark (start_life handling e.id) now (take len bytes)
      → HasNoMark now (drop len bytes) true
      → (e ≡ whole_encoding handling e bytes) × (bytes ≡ unmarked_bytes handling e bytes)
  without_mark now extends no_mark =
      let at_start = starts handling e in
      let none : find_mark (marks_looked_for handling e) bytes ≡ None =
      rw (at_start.marks, take-append-drop) at
      (none_found _ now (take len bytes) (drop len bytes) at_start.none_held extends no_mark) in
      rw none (refl, refl)

  -- the mark of the encoding `to`
  pub after_mark : (to : Encoding) → len ≤ length bytes
      → CompletesMark (start_life handling e.id) (take len bytes) to
      → (to ≡ whole_encoding handling e bytes) × (drop len bytes ≡ unmarked_bytes handling e bytes)
  after_mark to within completes =
      let at_start = starts handling e in
      let whole : take len bytes ≡ completes.mark.bytes =
      rw at_start.none_held at completes.whole in
      let found : find_mark (marks_looked_for handling e) bytes ≡ Some completes.mark =
      subst (λ x. find_mark (marks_looked_for handling e) x ≡ Some completes.mark)
      (ap (λ x. x ++ drop len bytes) (sym whole) ∙ take-append-drop len bytes)
      (rw at_start.marks at (completes.found (drop len bytes))) in
      let same_len : length completes.mark.bytes ≡ len =
      omega (arith, ap length whole, length-take len bytes, within) in
      rw (found, same_len) (sym completes.is_encoding, refl)
