-- What is printed of the evidence of a guess.
use Rattle.std.specs.Prelude.{ℕ, List, codes}
use Rattle.enc_sniff.specs.declared.guess.Evidence.{Evidence}
use Rattle.enc_sniff.specs.declared.guess.Evidence.TheVariants.{Bom, XmlDeclaration, Meta, Utf8}
use Rattle.enc_sniff.specs.declared.guess.Evidence.TheVariants.{Ascii, Nothing}

abbrev pub evidence_text : Evidence → List ℕ
evidence_text Bom = codes "byte order mark"
evidence_text XmlDeclaration = codes "XML declaration"
evidence_text Meta = codes "meta element"
evidence_text Utf8 = codes "well-formed UTF-8"
evidence_text Ascii = codes "ASCII alone"
evidence_text Nothing = codes "nothing"
