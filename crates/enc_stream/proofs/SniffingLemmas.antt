-- The first bytes of the input: the last byte of a mark, and the states in between.
use Rattle.std.proofs.Common.{◌≡◌, ℕ, ◌+◌, ◌<◌, ◌≤◌, Bool, true, false, if◌then◌else◌, List, [], ◌∷◌, ◌++◌, length}
use Rattle.std.proofs.Common.{take, drop, get_or, refl, ap, sym, ◌∙◌, subst, inl, inr, eqb, eqb-true, append_assoc}
use Rattle.std.proofs.Common.{append-nil, drop-cons, Some}
use Rattle.std.proofs.lemmas.Bool.{eqb-false, ne_eqb, false≢true}
use Rattle.std.proofs.lemmas.List.{take_more, drop_all}
use Rattle.enc_decoder.proofs.FirstSequenceLemmas.{true_or_false}
use Rattle.enc_stream.specs.declared.encoding.Encoding.{Encoding}
use Rattle.enc_stream.specs.declared.life_cycle.LifeCycle.{LifeCycle}
use Rattle.enc_stream.specs.declared.life_cycle.MarkByte.{MarkByte}
use Rattle.enc_stream.specs.declared.life_cycle.MarkByte.TheVariants.{Ends, RulesOut}
use Rattle.enc_stream.specs.Bom.{Mark, find_mark, marks_begun}
use Rattle.enc_stream.specs.LifeCycle.{marks_of, awaits_mark, held_mark_bytes}
use Rattle.enc_stream.specs.Sniffing.{ExtendsHeldMark, CompletesMark, ExcludesMarks, HasNoMark, IsMarkByte}
use Rattle.enc_stream.proofs.BegunMarkLemmas.{begun_more, begun_find}
use Rattle.enc_stream.proofs.LifeCycleLemmas.{held_begin, held_unmarked}

-- A byte after these held ends a byte order mark if it is its last one, and else rules all out.
pub mark_byte_after : (state : LifeCycle) (m : Mark) (last byte : ℕ)
    → held_mark_bytes state ++ last ∷ [] ≡ m.bytes → awaits_mark state ≡ true
    → ((y : List ℕ) → find_mark (marks_of state) (m.bytes ++ y) ≡ Some m)
    → ((y : List ℕ) → marks_begun (marks_of state) (m.bytes ++ y) ≡ [])
    → (eqb last byte ≡ false → ExcludesMarks state byte)
    → {life : LifeCycle} {what : MarkByte} → life ≡ state
    → what ≡ (if eqb byte last then Ends m.encoding else RulesOut) → IsMarkByte life byte what
mark_byte_after state m last byte whole awaits found none_begun excludes {life} state_is what_is =
    rw (state_is, what_is) (elim (true_or_false (eqb byte last)) [
      | inl is_last ↦ rw is_last (rw (eqb-true byte last is_last) (record {
        mark = m;
        is_encoding = refl;
        whole = whole;
        found = found;
        none_begun = none_begun;
        awaits = awaits;
      }))
      | inr is_other ↦ rw is_other
          (excludes (ne_eqb last byte (λ same. eqb-false byte last is_other (sym same))))
    ])

-- without a byte the state stays
pub reaches_itself : (life : LifeCycle) → ExtendsHeldMark life life []
reaches_itself life = record {
  held = append-nil (held_mark_bytes life);
  awaits = refl;
  marks = sym (held_begin life);
  unmarked = held_unmarked life;
  stays = λ f. refl;
}

-- the mark that one state finds after the bytes held, another finds that holds more
pub found_later : (a b : LifeCycle) {x : List ℕ} → ExtendsHeldMark a b x → (y : List ℕ)
    → find_mark (marks_of a) (held_mark_bytes b ++ y)
    ≡ find_mark (marks_of b) (held_mark_bytes b ++ y)
found_later a b extends y =
    sym (begun_find (marks_of a) (held_mark_bytes b) y extends.unmarked)
    ∙ ap (λ ms. find_mark ms (held_mark_bytes b ++ y)) (sym extends.marks)

-- one extension of the held bytes after another is one of both
pub reaches_then : (a b c : LifeCycle) (x y : List ℕ) → ExtendsHeldMark a b x
    → ExtendsHeldMark b c y
    → ExtendsHeldMark a c (x ++ y)
reaches_then a b c x y first_extends then_extends = record {
  held = sym (append_assoc (held_mark_bytes a) x y) ∙ ap (λ t. t ++ y) first_extends.held
      ∙ then_extends.held;
  awaits = then_extends.awaits ∙ first_extends.awaits;
  marks = then_extends.marks
      ∙ ap (λ ms. marks_begun ms (held_mark_bytes c)) first_extends.marks
      ∙ ap (marks_begun (marks_begun (marks_of a) (held_mark_bytes b))) (sym then_extends.held)
      ∙ begun_more (marks_of a) (held_mark_bytes b) y
      ∙ ap (marks_begun (marks_of a)) then_extends.held;
  unmarked = ap (find_mark (marks_of a)) (sym then_extends.held)
      ∙ found_later a b first_extends y ∙ ap (find_mark (marks_of b)) then_extends.held
      ∙ then_extends.unmarked;
  stays = λ awaited. then_extends.stays (first_extends.awaits ∙ awaited)
      ∙ first_extends.stays awaited;
}

-- and then a mark's end
pub ends_after : (a b : LifeCycle) (x y : List ℕ) (e : Encoding) → ExtendsHeldMark a b x
    → CompletesMark b y e
    → CompletesMark a (x ++ y) e
ends_after a b x y e extends completes = record {
  mark = completes.mark;
  is_encoding = completes.is_encoding;
  whole = sym (append_assoc (held_mark_bytes a) x y) ∙ ap (λ t. t ++ y) extends.held
      ∙ completes.whole;
  found = λ z.
      let after_held : held_mark_bytes b ++ (y ++ z) ≡ completes.mark.bytes ++ z =
      sym (append_assoc (held_mark_bytes b) y z) ∙ ap (λ t. t ++ z) completes.whole in
      ap (find_mark (marks_of a)) (sym after_held) ∙ found_later a b extends (y ++ z)
      ∙ ap (find_mark (marks_of b)) after_held ∙ completes.found z;
  none_begun = λ z.
      let after_held : held_mark_bytes b ++ (y ++ z) ≡ completes.mark.bytes ++ z =
      sym (append_assoc (held_mark_bytes b) y z) ∙ ap (λ t. t ++ z) completes.whole in
      ap (marks_begun (marks_of a)) (sym after_held)
      ∙ sym (begun_more (marks_of a) (held_mark_bytes b) (y ++ z))
      ∙ ap (λ ms. marks_begun ms (held_mark_bytes b ++ (y ++ z))) (sym extends.marks)
      ∙ ap (marks_begun (marks_of b)) after_held ∙ completes.none_begun z;
  awaits = sym extends.awaits ∙ completes.awaits;
}

-- the same by the next byte of an offer, after those taken
pub reaches_next : (a b c : LifeCycle) (src : List ℕ) (n : ℕ) → n < length src
    → ExtendsHeldMark a b (take n src)
    → ExtendsHeldMark b c (get_or src n 0 ∷ []) → ExtendsHeldMark a c (take (n + 1) src)
reaches_next a b c src n below first next =
    rw (take_more src n 0 below) (reaches_then a b c (take n src) (get_or src n 0 ∷ []) first next)

pub ends_next : (a b : LifeCycle) (src : List ℕ) (n : ℕ) (e : Encoding) → n < length src
    → ExtendsHeldMark a b (take n src)
    → CompletesMark b (get_or src n 0 ∷ []) e → CompletesMark a (take (n + 1) src) e
ends_next a b src n e below extends ends =
    rw (take_more src n 0 below) (ends_after a b (take n src) (get_or src n 0 ∷ []) e extends ends)

-- a byte that rules marks out is in front of text
pub text_at : (life : LifeCycle) (src : List ℕ) (n : ℕ) (last : Bool) → n < length src
    → ExcludesMarks life (get_or src n 0)
    → HasNoMark life (drop n src) last
text_at life src n last h off = rw (drop-cons src n 0) (record {
  rules_out = λ b z e. let same : get_or src n 0 ≡ b = cc in subst (ExcludesMarks life) same off;
  ends = λ e a. absurd (let no : ⊥ = cc in no);
})

-- and so is the end, where no mark is awaited or nothing follows
pub text_at_end : (life : LifeCycle) (src : List ℕ) (n : ℕ) (last : Bool) → length src ≤ n
    → (awaits_mark life ≡ true → last ≡ true)
    → HasNoMark life (drop n src) last
text_at_end life src n last h l = rw (drop_all n src h) (record {
  rules_out = λ b z e. absurd (let no : ⊥ = cc in no);
  ends = λ e a. l a;
})

-- and so is all, where no mark may come
pub no_mark_within : (life : LifeCycle) {src : List ℕ} {last : Bool} → marks_of life ≡ []
    → HasNoMark life src last
no_mark_within life none = record {
  rules_out = λ b z e. record { no_mark = λ y. rw none refl; none_begun = λ y. rw none refl };
  ends = λ e awaits. absurd (let no : false ≡ true = rw none at awaits in false≢true no);
}
