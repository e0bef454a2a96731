-- Pairs of labels, of the encodings to recode from and to.
use Rattle.std.specs.Prelude.{◌≡◌, ℕ, List, Some}
use Rattle.enc_stream.specs.declared.encoding.Encoding.{Encoding}
use Rattle.enc_stream.specs.Labels.{encoding_of_label_no_replacement}

-- The label names this encoding. No label names replacement.
abbrev pub NamesEncoding : List ℕ → Encoding → Type 0
NamesEncoding label e = encoding_of_label_no_replacement label ≡ Some e

-- One of the labels names no encoding.
abbrev pub AreUnknown : List ℕ → List ℕ → Type 0
AreUnknown from to = (f t : Encoding) → NamesEncoding from f → ¬ (NamesEncoding to t)
