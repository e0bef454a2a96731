-- The tokens of a header field, between which white space and comments may stand (RFC 5322 3.2;
-- RFC 2045 5.1).
use Rattle.std.specs.Prelude.{ℕ, Bool, ◌&&◌, ◌||◌, not, if◌then◌else◌, ◌==◌, ◌+◌, ◌-◌, List, []}
use Rattle.std.specs.Prelude.{◌∷◌, take, drop, Option, Some, None, option_map, codes}
use Rattle.std.specs.List.{list_any, take_while}
use Rattle.std.specs.Char.{is_ascii_graphic}
use Rattle.enc_sniff.specs.Positions.{past}
use Rattle.enc_sniff.specs.HeaderFields.{is_wsp}

-- white space: a space, a tab, or the end of a line before one of these (RFC 5322 3.2.2, "FWS")
abbrev pub is_folding_space : ℕ → Bool
is_folding_space b = is_wsp b || (b == 0x0D || b == 0x0A)

-- whether a byte, at a depth of comments, belongs neither to white space nor to a comment
abbrev pub is_past_comments : ℕ → ℕ → Bool
is_past_comments depth b = depth == 0 && not (b == 0x28 || is_folding_space b)

-- whether a byte is a backslash in a comment, which quotes the byte after it (RFC 5322 3.2.1)
abbrev pub quotes_next : ℕ → ℕ → Bool
quotes_next depth b = not (depth == 0) && b == 0x5C

-- the depth after a byte: parentheses nest
abbrev pub depth_after : ℕ → ℕ → ℕ
depth_after depth b = if b == 0x28 then depth + 1 else if b == 0x29 then depth - 1 else depth

-- the position after white space and comments, from a depth of comments on (RFC 5322 3.2.2,
-- "CFWS")
abbrev pub past_comments : ℕ → List ℕ → List ℕ
past_comments depth [] = []
past_comments depth (b ∷ []) = if is_past_comments depth b then b ∷ [] else []
past_comments depth (b ∷ c ∷ s) =
    if is_past_comments depth b then b ∷ c ∷ s
    else if quotes_next depth b then past_comments depth s
    else past_comments (depth_after depth b) (c ∷ s)

-- The offset of the quotation mark that ends a quoted string, of which n bytes stand before the
-- position. A backslash quotes the byte after it (RFC 5322 3.2.4).
abbrev pub closing_offset : ℕ → List ℕ → Option ℕ
closing_offset n [] = None
closing_offset n (b ∷ []) = if b == 0x22 then Some n else None
closing_offset n (b ∷ c ∷ s) =
    if b == 0x22 then Some n
    else if b == 0x5C then closing_offset (n + 2) s
    else closing_offset (n + 1) (c ∷ s)

-- some bytes without the backslashes that quote
abbrev pub unquoted : List ℕ → List ℕ
unquoted [] = []
unquoted (b ∷ []) = b ∷ []
unquoted (b ∷ c ∷ s) = if b == 0x5C then c ∷ unquoted s else b ∷ unquoted (c ∷ s)

-- a byte of a token: a printable one of ASCII, other than these (RFC 2045 5.1, "tspecials")
abbrev pub is_token_byte : ℕ → Bool
is_token_byte b = is_ascii_graphic b && not (list_any (λ c. c == b) (codes "()<>@,;:\\\"/[]?="))

-- a token of RFC 2045, the text of a quoted string, or any other byte
pub data Token : Type 0 where
  word : List ℕ → Token
  quoted_string : List ℕ → Token
  special : ℕ → Token

-- a quoted string after its first quotation mark
abbrev pub quoted_string_at : List ℕ → Option (Token × List ℕ)
quoted_string_at s =
    option_map (λ n. (quoted_string (unquoted (take n s)), drop (n + 1) s)) (closing_offset 0 s)

-- the token that begins with this byte, and the position after it
abbrev pub token_from : ℕ → List ℕ → Option (Token × List ℕ)
token_from b s =
    if b == 0x22 then quoted_string_at s
    else if is_token_byte b then Some (word (b ∷ take_while is_token_byte s), past is_token_byte s)
    else Some (special b, s)

-- the token at a position
abbrev pub token_at : List ℕ → Option (Token × List ℕ)
token_at [] = None
token_at (b ∷ s) = token_from b s

-- The next token and the position after it. `None` if there is no other one, or no end of a quoted
-- string.
abbrev pub next_token : List ℕ → Option (Token × List ℕ)
next_token s = token_at (past_comments 0 s)
