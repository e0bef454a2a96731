use Rattle.std.proofs.Common.{[], ◌∷◌, ap, sym, ◌∙◌, map, map-id}
use Rattle.std.proofs.lemmas.List.{map-append}
use Rattle.std.proofs.lemmas.Iterator.{YieldsList-from_chars}
use Rattle.std.proofs.lemmas.Iterator.Consumers.{YieldsList-end}
use Rattle.enc_reader.specs.Items.{character_item}
use Rattle.enc_reader.specs.Places.{position_after, after_character}
use Rattle.enc_reader.proofs.PlaceLemmas.{position_after-append}
use Rattle.enc_reader.proofs.position.Position.after_text.Goals as goal

pub loop-character-preserved : goal.loop-character-preserved
loop-character-preserved c =
    let so_far = c.loop-character.yielded in
    let next = c.in-Some.character in
    c.after-position.ensures
    ∙ ap (λ p. after_character p next) c.loop-character.invariant
    ∙ sym (ap (position_after c.args.self) (map-append character_item so_far (next ∷ []))
    ∙ position_after-append c.args.self (map character_item so_far) (character_item next ∷ []))

pub returns : goal.returns
returns c =
    let end = YieldsList-end (YieldsList-from_chars c.args.text.now c.utf8.text cc)
    c.loop-character.yielded _ c.loop-character.yielded_by _ _ c.in-None.is c.next.ensures.steps in
    c.loop-character.invariant
    ∙ ap (λ cs. position_after c.args.self (map character_item cs))
    (sym (map-id c.loop-character.yielded) ∙ end.0)
