-- Where the byte may end a mark, it does or it rules marks out; the check finds the other answers.
use Rattle.std.proofs.Common.{refl}
use Rattle.enc_stream.specs.declared.life_cycle.LifeCycle.TheVariants.{SeenUtf8Second, SeenUtf16BeFirst}
use Rattle.enc_stream.specs.declared.life_cycle.LifeCycle.TheVariants.{SeenUtf16LeFirst}
use Rattle.enc_stream.specs.Bom.{utf_8_mark, utf_16be_mark, utf_16le_mark}
use Rattle.enc_stream.proofs.life_cycle.LifeCycle.mark_byte.Goals as goal
use Rattle.enc_stream.proofs.SniffingLemmas.{mark_byte_after}

pub returns-in-SeenUtf8Second : goal.returns-in-SeenUtf8Second
returns-in-SeenUtf8Second c =
    mark_byte_after SeenUtf8Second utf_8_mark 0xBF _ refl refl (λ y. refl) (λ y. refl)
    (λ other. record { no_mark = λ y. rw other refl; none_begun = λ y. rw other refl })
    c.in-SeenUtf8Second.is c.mark_byte_if-in-SeenUtf8Second.ensures

pub returns-in-SeenUtf16BeFirst : goal.returns-in-SeenUtf16BeFirst
returns-in-SeenUtf16BeFirst c =
    mark_byte_after SeenUtf16BeFirst utf_16be_mark 0xFF _ refl refl (λ y. refl) (λ y. refl)
    (λ other. record { no_mark = λ y. rw other refl; none_begun = λ y. rw other refl })
    c.in-SeenUtf16BeFirst.is c.mark_byte_if-in-SeenUtf16BeFirst.ensures

pub returns-in-SeenUtf16LeFirst : goal.returns-in-SeenUtf16LeFirst
returns-in-SeenUtf16LeFirst c =
    mark_byte_after SeenUtf16LeFirst utf_16le_mark 0xFE _ refl refl (λ y. refl) (λ y. refl)
    (λ other. record { no_mark = λ y. rw other refl; none_begun = λ y. rw other refl })
    c.in-SeenUtf16LeFirst.is c.mark_byte_if-in-SeenUtf16LeFirst.ensures
