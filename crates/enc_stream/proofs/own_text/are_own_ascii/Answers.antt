use Rattle.std.proofs.Common.{◌∙◌, ap, sym, inl, inr}
use Rattle.std.proofs.lemmas.Bool.{false≢true}
use Rattle.enc_utf8.specs.Validity.{AreAscii, AreIso2022JpAscii}
use Rattle.enc_stream.specs.OwnText.{AreTheirOwnText}
use Rattle.enc_stream.specs.Properties.{is_ascii_compatible}
use Rattle.enc_stream.proofs.OwnTextLemmas.{prefix_decides, only_plain, only_ascii}
use Rattle.enc_stream.proofs.own_text.are_own_ascii.Goals as goal

pub returns-then-is_ascii_compatible : goal.returns-then-is_ascii_compatible
returns-then-is_ascii_compatible c =
    let encoding = c.args.encoding in
    let bytes = c.args.bytes.now in
    let compatible = sym c.is_ascii_compatible.ensures ∙ c.if-is_ascii_compatible.true in
    prefix_decides AreAscii bytes c.ascii_valid_up_to.result (AreTheirOwnText encoding bytes)
    c.ascii_valid_up_to.ensures (λ ascii. inr (inl (compatible, ascii)))
    (λ own. (only_ascii encoding bytes c.requires.other
    (λ same. false≢true (ap is_ascii_compatible (sym same) ∙ compatible)) own).1)

pub returns-then-are_same : goal.returns-then-are_same
returns-then-are_same c =
    let encoding = c.args.encoding in
    let bytes = c.args.bytes.now in
    let same = c.are_same.ensures.0 c.if-are_same.true in
    prefix_decides AreIso2022JpAscii bytes c.iso_2022_jp_ascii_valid_up_to.result
    (AreTheirOwnText encoding bytes) c.iso_2022_jp_ascii_valid_up_to.ensures
    (λ plain. inr (inr (same, plain))) (only_plain encoding bytes same)
