use Rattle.std.proofs.Common.{◌≡◌, refl, sym, ◌∙◌, ap, subst, take}
use Rattle.std.proofs.Math.Seq.{take-length}
use Rattle.enc_decoder.proofs.ByteLemmas.{bytes_of_slice}
use Rattle.enc_stream.specs.Sniffing.{ExtendsHeldMark}
use Rattle.enc_codec.specs.Variant.{variant_decoder_state}
use Rattle.enc_decoder.specs.CallRecord.{call_into}
use Rattle.enc_stream.specs.Decoding.{DecodesInto}
use Rattle.enc_stream.specs.Encodings.{rule_of}
use Rattle.enc_stream.specs.Parts.{state_of_parts}
use Rattle.enc_stream.proofs.OutputFullLemmas.{converts_into}
use Rattle.enc_stream.proofs.LifeCycleLemmas.{holds_marks}
use Rattle.enc_stream.proofs.SniffingLemmas.{no_mark_within}
use Rattle.enc_stream.proofs.AfterMarkLemmas.{all_held, after_prefix, goes_on_after_mark, after_text}
use Rattle.enc_stream.proofs.parts.DecoderParts.decode_sniffed.Goals as goal
use Rattle.enc_stream.proofs.parts.DecoderParts.decode_sniffed.Goals.{in-Mark, in-Text}
use Rattle.enc_stream.proofs.parts.DecoderParts.decode_sniffed.Goals.{then-begins_as_text, else-begins_as_text}
use Rattle.enc_stream.proofs.parts.DecoderParts.decode_sniffed.Given as given

pub returns-in-Open-clause-call : goal.returns-in-Open-clause-call
returns-in-Open-clause-call g c =
    let sniffed = rw c.in-Open.is at c.requires.sniffed in
    let extends =
    subst (ExtendsHeldMark c.args.self.now.life c.in-Open.held)
    (sym (ap (λ n. take n c.args.src.now) sniffed.0
    ∙ take-length c.args.src.now)) sniffed.3 in
    converts_into c.laws.ensures (holds_marks _ _ _ c.requires.parts.0.1) c.requires.unfinished
    (rw sniffed.1
    (all_held _ _ _ c.requires.parts.0.1 extends
    (sym extends.awaits ∙ sniffed.2) (bytes_of_slice _ c.type_inv.src) sniffed.0))

pub decode_text-of_text-requires-clause-text : goal.decode_text-of_text-requires-clause-text
decode_text-of_text-requires-clause-text g c = elim c.match-found.branch [
  | in-Mark w ↦ rw (w.self-is, w.start.ensures.life) (no_mark_within _ refl)
  | in-Text w ↦ (let sniffed = rw w.in-Text.is at c.requires.sniffed in
      rw (w.self-is, c.split_at.ensures.back) sniffed.1)
]

-- the text after what was found is decoded in either way
rest : (g : given.Over) (c : goal.After-struct_known-1 g)
    → rule_of c.match-found.self.encoding ≡ (variant_decoder_state c.match-found.self.codec).rule
    → DecodesInto g.U.Units.units_of (state_of_parts c.match-found.self)
    (state_of_parts c.if-begins_as_text.self)
    (call_into c.split_at.result.1.now c.args.options (g.U.Units.output c.args.out.now)
    (g.U.Units.output c.if-begins_as_text.out) c.if-begins_as_text.of_text)
rest g c same = elim c.if-begins_as_text.branch [
  | then-begins_as_text w ↦ rw (w.self-is, w.out-is, w.of_text-is)
      (w.decode_plain-of_text.ensures.call c.match-found.self.encoding same)
  | else-begins_as_text w ↦ rw (w.self-is, w.out-is, w.of_text-is)
      (w.decode_text-of_text.ensures.call c.match-found.self.encoding same)
]

pub returns-clause-call : goal.returns-clause-call
returns-clause-call g c =
    converts_into c.laws.ensures (holds_marks _ _ _ c.requires.parts.0.1) c.requires.unfinished
    (elim c.match-found.branch [
      | in-Mark w ↦
          let completes = rw w.in-Mark.is at c.requires.sniffed in
          let text = rest g c (rw w.self-is w.start.ensures.parts.0.0) in
          after_prefix (bytes_of_slice _ c.type_inv.src)
          (goes_on_after_mark _ _ _ c.requires.parts.0.1 c.requires.within completes)
          (rw (c.split_at.ensures.back, w.self-is, w.start.ensures.state) at text)
      | in-Text w ↦
          let sniffed = rw w.in-Text.is at c.requires.sniffed in
          let text = rest g c (rw w.self-is c.requires.parts.0.0) in
          after_text _ _ _ _ c.requires.parts.0.1 c.requires.within sniffed.0 refl
          (bytes_of_slice _ c.type_inv.src)
          (rw (c.split_at.ensures.back, w.self-is) at text)
    ])
