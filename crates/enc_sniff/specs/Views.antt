-- Parts of the input that the code refers to, as lists of bytes.
use Rattle.std.specs.Prelude.{ℕ, List, [], Option, option_map}
use Rattle.std.specs.Borrow.{Bor}
use Rattle.enc_sniff.specs.declared.attributes.Attribute.{Attribute as AttributeAt}
use Rattle.enc_sniff.specs.declared.meta.Meta.{Meta}
use Rattle.enc_sniff.specs.declared.html.Turn.{Turn as TurnAt}
use Rattle.enc_sniff.specs.declared.html.Turn.TheVariants.{Return, NextByte}
use Rattle.enc_sniff.specs.declared.tokens.Token.{Token as TokenAt}
use Rattle.enc_sniff.specs.declared.tokens.Token.TheVariants.{Word, Quoted, Special}
use Rattle.enc_sniff.specs.declared.mail.Value.{Value}
use Rattle.enc_sniff.specs.declared.mail.Value.TheVariants as value
use Rattle.enc_sniff.specs.Attributes.{Attribute}
use Rattle.enc_sniff.specs.HeaderTokens.{Token, word, quoted_string, special, unquoted}
use Rattle.enc_sniff.specs.Html.{Turn, returns, next_byte}

-- two parts
abbrev pub both_now : Bor (List ℕ) × Bor (List ℕ) → List ℕ × List ℕ
both_now parts = (parts.0.now, parts.1.now)

-- an attribute
abbrev pub attribute_now : AttributeAt → Attribute
attribute_now a = record { name = a.name.now; value = a.value.now }

-- an attribute and the position after it
abbrev pub named_now : AttributeAt × Bor (List ℕ) → Attribute × List ℕ
named_now found = (attribute_now found.0, found.1.now)

-- what "get an attribute" returns
abbrev pub sniffed_now : Option AttributeAt × Bor (List ℕ) → Option Attribute × List ℕ
sniffed_now found = (option_map attribute_now found.0, found.1.now)

-- the variables of a `meta` element and a position
abbrev pub tag_now : Meta × Bor (List ℕ) → Meta × List ℕ
tag_now found = (found.0, found.1.now)

-- a turn of the loop
abbrev pub turn_now : TurnAt → Turn
turn_now (Return e) = returns e
turn_now (NextByte s) = next_byte s.now

-- the bytes from the position after a turn on
abbrev pub bytes_after : TurnAt → List ℕ
bytes_after (Return e) = []
bytes_after (NextByte s) = s.now

-- a token of a header
abbrev pub token_now : TokenAt → Token
token_now (Word s) = word s.now
token_now (Quoted s) = quoted_string (unquoted s.now)
token_now (Special b) = special b

-- a token and the position after it
abbrev pub token_found : TokenAt × Bor (List ℕ) → Token × List ℕ
token_found found = (token_now found.0, found.1.now)

-- the text of a value
abbrev pub value_now : Value → List ℕ
value_now (value.Word s) = s.now
value_now (value.Quoted s) = unquoted s.now
