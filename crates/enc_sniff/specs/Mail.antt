-- The encoding that the header of a mail declares: the parameter `charset` of its field
-- Content-Type (RFC 2045 5.1).
use Rattle.std.specs.Prelude.{ℕ, zero, suc, Bool, false, if◌then◌else◌, ◌==◌, List, length, Option}
use Rattle.std.specs.Prelude.{Some, None, option_and_then, codes}
use Rattle.std.specs.Option.{option_or}
use Rattle.enc_stream.specs.declared.encoding.Encoding.{Encoding}
use Rattle.enc_stream.specs.Labels.{encoding_of_label}
use Rattle.enc_sniff.specs.Positions.{is_same_word}
use Rattle.enc_sniff.specs.HeaderFields.{first_field}
use Rattle.enc_sniff.specs.HeaderTokens.{Token, word, quoted_string, special, next_token}

-- the text of a value, which is a token of RFC 2045 or a quoted string
abbrev pub token_text : Token → Option (List ℕ)
token_text (word w) = Some w
token_text (quoted_string w) = Some w
token_text (special b) = None

-- whether a token is this name, in either case
abbrev pub is_name : List ℕ → Token → Bool
is_name name (word w) = is_same_word w name
is_name name (quoted_string w) = false
is_name name (special b) = false

-- whether a token is this byte
abbrev pub is_special : ℕ → Token → Bool
is_special c (word w) = false
is_special c (quoted_string w) = false
is_special c (special b) = b == c

-- the value at a position
abbrev pub parameter_text : List ℕ → Option (List ℕ)
parameter_text s = option_and_then (λ found. token_text found.0) (next_token s)

-- the value after `=`
abbrev pub text_after_sign : List ℕ → Option (List ℕ)
text_after_sign s =
    option_and_then (λ found. if is_special 0x3D found.0 then parameter_text found.1 else None)
    (next_token s)

-- the value of a parameter, if it has this name
abbrev pub named_text : List ℕ → List ℕ → Option (List ℕ)
named_text name s =
    option_and_then (λ found. if is_name name found.0 then text_after_sign found.1 else None)
    (next_token s)

-- the value of a parameter of this name, if it follows a token that is a semicolon
abbrev pub text_after : List ℕ → Token → List ℕ → Option (List ℕ)
text_after name t s = if is_special 0x3B t then named_text name s else None

-- the value after a token, or else one after a later token
abbrev pub text_or_later :
    List ℕ → (List ℕ → Option (List ℕ)) → Option (Token × List ℕ) → Option (List ℕ)
text_or_later name later None = None
text_or_later name later (Some (t, s)) = option_or (text_after name t s) (later s)

-- the first parameter of this name, among n tokens at most
abbrev pub parameter_within : List ℕ → ℕ → List ℕ → Option (List ℕ)
parameter_within name zero s = None
parameter_within name (suc n) s =
    text_or_later name (parameter_within name n) (next_token s)

-- The value of the first parameter of this name in the body of a field. Each token has a byte at
-- least, so the bytes run out before the number does.
abbrev pub first_parameter : List ℕ → List ℕ → Option (List ℕ)
first_parameter name body = parameter_within name (length body) body

-- the encoding of the first parameter `charset` of the first field Content-Type
abbrev pub mail_encoding : List ℕ → Option Encoding
mail_encoding bytes =
    option_and_then encoding_of_label
    (option_and_then (first_parameter (codes "charset"))
    (first_field (codes "content-type") bytes))
