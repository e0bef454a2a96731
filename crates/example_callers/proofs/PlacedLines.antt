-- Lines of a slice: their text and their malformed sequences.
use Rattle.std.proofs.Common.{◌≡◌, ◌≢◌, ℕ, ◌+◌, ◌-◌, ◌^◌, ◌<◌, ◌∷◌, inl, inr, Bool, true, false, List, []}
use Rattle.std.proofs.Common.{◌++◌, length, map, Some, Option}
use Rattle.std.proofs.Common.{refl, ap, ◌∙◌, sym, subst, string_bytes, arith, append_assoc, append-nil, length-append}
use Rattle.std.specs.Char.{encode_utf8}
use Rattle.enc_utf8.specs.Text.{units_of_text}
use Rattle.enc_decoder.specs.Sequence.{sequence_bytes}
use Rattle.enc_stream.specs.declared.bom.BomHandling.TheVariants.{Sniff}
use Rattle.enc_stream.specs.declared.encoding.Encoding.{Encoding}
use Rattle.enc_reader.specs.declared.malformed_policy.MalformedPolicy.{MalformedPolicy}
use Rattle.enc_reader.specs.declared.line.Line.{Line}
use Rattle.enc_reader.specs.Source.{IsExhausted}
use Rattle.enc_reader.specs.Items.{Item, items_from, whole_items}
use Rattle.enc_reader.specs.Counting.{HasGiven, owed_items}
use Rattle.enc_reader.specs.Places.{placed, placed_of, position_after, start_of_text}
use Rattle.enc_reader.specs.Policies.{text_by}
use Rattle.enc_reader.specs.Lines.{LineState, ReadsLine, AppendsItems, AreLinesAtEnd, items_to_take}
use Rattle.enc_reader.proofs.SourceLemmas.{at_end}
use Rattle.enc_reader.proofs.PlaceLemmas.{position_after-append}
use Rattle.enc_reader.proofs.PlacedLineLemmas.{AppendsItems-none, AppendsItems-then, SameLine-self}

-- Of the items of `all` the first are in a line that was empty. The lines still owe the others, and
-- the source still gives `left`.
pub record HasLines (e : Encoding) (all left : List ℕ) (policy : MalformedPolicy)
    (state : LineState) (empty line : Line) : Type 0 where
  pub given : ℕ
  pub all_given : given + length left ≡ length all
  pub counted : HasGiven state.given state.reader given
  pub taken : List Item
  pub items : whole_items Sniff e all ≡ taken ++ items_to_take given state left
  pub appends : AppendsItems policy start_of_text empty line taken
  pub position : state.position ≡ position_after start_of_text taken

-- lines of which none is read
pub HasLines-start : (e : Encoding) (all : List ℕ) (policy : MalformedPolicy) (state : LineState)
    (empty : Line) → HasGiven state.given state.reader 0 → state.held ≡ []
    → ((z : List ℕ) → owed_items 0 state.reader z ≡ whole_items Sniff e z)
    → state.position ≡ start_of_text → HasLines e all all policy state empty empty
HasLines-start e all policy state empty given none items position = record {
  given = 0;
  all_given = omega arith;
  counted = given;
  taken = [];
  items = sym (items all) ∙ ap (λ h. h ++ owed_items 0 state.reader all) (sym none);
  appends = AppendsItems-none policy start_of_text (SameLine-self empty);
  position = position;
}

module _ {e : Encoding} {all left rest : List ℕ} {policy : MalformedPolicy}
    {old new : LineState} where
  pub HasLines-read : {empty before after : Line} {some : Bool} → length all < 2 ^ 64
      → HasLines e all left policy old empty before
      → ReadsLine policy (Some left) (Some rest) old new before after some
      → (new.reader.ended ≡ true → IsExhausted (Some rest))
      → HasLines e all rest policy new empty after
  HasLines-read {before = before} {after = after} small so_far reads exhausted =
      let takes = reads.takes in
      let consumed : left ≡ takes.bytes ++ rest = takes.given in
      let sum : so_far.given + length takes.bytes + length rest ≡ so_far.given + length left =
      omega (arith, ap length consumed, length-append takes.bytes rest) in
      record {
        given = so_far.given + length takes.bytes;
        all_given = sum ∙ so_far.all_given;
        counted = takes.counts refl so_far.given so_far.counted;
        taken = so_far.taken ++ reads.taken;
        items = so_far.items
            ∙ ap (λ l. so_far.taken ++ items_to_take so_far.given old l) consumed
            ∙ ap (λ l. so_far.taken ++ l) (takes.passed so_far.given so_far.counted
            (omega (arith, small, sum, so_far.all_given)) rest
            (λ ended. at_end (Some rest) (exhausted ended)))
            ∙ sym (append_assoc so_far.taken reads.taken
            (items_to_take (so_far.given + length takes.bytes) new rest));
        appends = AppendsItems-then so_far.appends
            (subst (λ p. AppendsItems policy p before after reads.taken) so_far.position
            reads.appends);
        position = takes.position ∙ ap (λ p. position_after p reads.taken) so_far.position
            ∙ sym (position_after-append start_of_text so_far.taken reads.taken);
      }

-- At the end all are taken.
pub HasLines-all : {e : Encoding} {all rest : List ℕ} {policy : MalformedPolicy}
    {state : LineState} {empty line : Line} (so_far : HasLines e all rest policy state empty line)
    → AreLinesAtEnd (Some rest) state → so_far.taken ≡ whole_items Sniff e all
HasLines-all {rest = rest} {state = state} so_far end =
    let none : items_to_take so_far.given state rest ≡ [] =
    ap (λ h. h ++ owed_items so_far.given state.reader rest) end.none_held
    ∙ ap (owed_items so_far.given state.reader) end.reader.exhausted
    ∙ ap (λ ss. items_from (so_far.given + 0 - length (sequence_bytes ss)) ss)
    end.reader.none_owed in
    sym (so_far.items ∙ ap (λ l. so_far.taken ++ l) none ∙ append-nil so_far.taken)

-- The text and the malformed sequences of a line that has all items, and was empty.
module _ {e : Encoding} {all rest : List ℕ} {policy : MalformedPolicy} {state : LineState}
    {empty line : Line} (so_far : HasLines e all rest policy state empty line)
    (end : AreLinesAtEnd (Some rest) state) where
  pub text_of_all : string_bytes empty.text ≡ []
      → string_bytes line.text
      ≡ units_of_text encode_utf8 (text_by policy (whole_items Sniff e all))
  text_of_all none =
      so_far.appends.text
      ∙ ap (λ l. l ++ units_of_text encode_utf8 (text_by policy so_far.taken)) none
      ∙ ap (λ l. units_of_text encode_utf8 (text_by policy l)) (HasLines-all so_far end)

  pub malformed_of_all : empty.malformed.items ≡ []
      → map placed_of line.malformed.items ≡ placed start_of_text (whole_items Sniff e all)
  malformed_of_all none =
      so_far.appends.malformed
      ∙ ap (λ l. map placed_of l ++ placed start_of_text so_far.taken) none
      ∙ ap (placed start_of_text) (HasLines-all so_far end)

-- Where nothing is taken, nothing is left.
pub ReadsLine-none : {policy : MalformedPolicy} {t₀ t₁ : Option (List ℕ)} {old new : LineState}
    {before after : Line} {some : Bool} → ReadsLine policy t₀ t₁ old new before after some
    → some ≡ false → AreLinesAtEnd t₁ new
ReadsLine-none reads is_none = elim reads.whole [
  | inl line ↦ absurd (omega (
    arith,
    ap length (sym (reads.none is_none) ∙ line.parts),
    length-append line.before (line.feed ∷ []),
  ))
  | inr end ↦ end.1
]
