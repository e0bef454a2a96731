use Rattle.std.specs.Prelude.{◌≡◌, ℕ, ◌<◌, true, List, [], ◌∷◌, ◌++◌}
use Rattle.enc_stream.specs.declared.bom.BomHandling.{BomHandling}
use Rattle.enc_stream.specs.declared.bom.BomHandling.TheVariants.{Off}
use Rattle.enc_stream.specs.declared.encoding.Encoding.{Encoding}
use Rattle.enc_stream.specs.Decoding.{whole_sequences, whole_encoding}
use Rattle.enc_stream.specs.Encodings.{output_rule}
use Rattle.enc_stream.specs.Properties.{is_ascii_compatible}
use Rattle.enc_stream.proofs.PropertyLemmas.{divided_below_digits}
use Rattle.enc_stream.proofs.FirstPartLemmas.{first_part_divides}
use Rattle.enc_stream.proofs.DivisionLemmas.{bytes_are_joined, flags_are_joined}
use Rattle.enc_stream.proofs.laws.recoded_parts_are_the_whole.Goals as goal

divided : (handling : BomHandling) (from : Encoding) (c : ℕ) (front back : List ℕ)
    → is_ascii_compatible (whole_encoding handling from (front ++ c ∷ [])) ≡ true → c < 0x30
    → whole_sequences handling from (front ++ c ∷ back)
    ≡ whole_sequences handling from (front ++ c ∷ [])
    ++ whole_sequences Off (whole_encoding handling from (front ++ c ∷ [])) back
divided handling from c front back compatible low =
    first_part_divides handling from c low front
    (divided_below_digits (whole_encoding handling from (front ++ c ∷ [])) compatible c low) back

pub returns-clause-bytes : goal.returns-clause-bytes
returns-clause-bytes c = λ handling b front back compatible is_not low.
    let first = whole_sequences handling c.args.from (front ++ b ∷ []) in
    let encoding = whole_encoding handling c.args.from (front ++ b ∷ []) in
    bytes_are_joined _ first (whole_sequences Off encoding back)
    (divided handling c.args.from b front back compatible low) c.args.to is_not

pub returns-clause-flag : goal.returns-clause-flag
returns-clause-flag c = λ handling b front back compatible low.
    let first = whole_sequences handling c.args.from (front ++ b ∷ []) in
    let encoding = whole_encoding handling c.args.from (front ++ b ∷ []) in
    flags_are_joined _ first (whole_sequences Off encoding back)
    (divided handling c.args.from b front back compatible low) (output_rule [] c.args.to)
