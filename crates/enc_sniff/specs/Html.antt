-- The encoding that the first bytes of a page declare (HTML Standard 13.2.3.2, "prescan a byte
-- stream to determine its encoding").
use Rattle.std.specs.Prelude.{ℕ, zero, suc, Bool, ◌&&◌, ◌||◌, if◌then◌else◌, nat_eq, ◌==◌, List, []}
use Rattle.std.specs.Prelude.{◌∷◌, length, take, drop, unwrap_or, Option, Some, None, codes}
use Rattle.std.specs.Prelude.{slice_index}
use Rattle.std.specs.List.{starts_with}
use Rattle.std.specs.Option.{option_or}
use Rattle.std.specs.Char.{is_ascii_alphabetic}
use Rattle.enc_stream.specs.declared.encoding.Encoding.{Encoding}
use Rattle.enc_sniff.specs.declared.meta.Meta.{Meta}
use Rattle.enc_sniff.specs.Positions.{past, past_word, is_not, begins_in_either_case}
use Rattle.enc_sniff.specs.Attributes.{Attribute, is_separator, is_word_byte, get_attribute}
use Rattle.enc_sniff.specs.Meta.{fresh_meta, with_attribute, meta_encoding}
use Rattle.enc_sniff.specs.Xml.{utf_16_head, xml_declaration_encoding}

-- what follows an attribute: the next one, or what the loop has found at the end of the tag
abbrev pub after_attribute :
    (Meta → List ℕ → Option (Meta × List ℕ)) → Meta → Option (Option Attribute × List ℕ)
    → Option (Meta × List ℕ)
after_attribute loop m None = None
after_attribute loop m (Some (None, s)) = Some (m, s)
after_attribute loop m (Some (Some a, s)) = loop (with_attribute m a) s

-- the step "attributes" and those after it, at most n times: the variables and the position at the
-- end of the tag. `None` if the bytes run out.
abbrev pub attributes : ℕ → Meta → List ℕ → Option (Meta × List ℕ)
attributes zero m s = None
attributes (suc n) m s = after_attribute (attributes n) m (get_attribute s)

-- all attributes of a tag. Each has a byte at least, so the bytes run out before the number does.
abbrev pub tag_attributes : List ℕ → Option (Meta × List ℕ)
tag_attributes s = attributes (length s) fresh_meta s

-- What a turn of the loop comes to: "return charset", or "next byte" and the position there, which
-- is the end if the bytes run out.
pub data Turn : Type 0 where
  returns : Encoding → Turn
  next_byte : List ℕ → Turn

-- an encoding is returned
abbrev pub return_or : Option Encoding → List ℕ → Turn
return_or None s = next_byte s
return_or (Some e) s = returns e

-- step 4, `<meta`: "processing", and the byte after the tag
abbrev pub meta_turn : Option (Meta × List ℕ) → Turn
meta_turn None = next_byte []
meta_turn (Some (m, s)) = return_or (meta_encoding m) (drop 1 s)

-- step 4, a tag: the byte after it
abbrev pub tag_turn : Option (Meta × List ℕ) → Turn
tag_turn None = next_byte []
tag_turn (Some (m, s)) = next_byte (drop 1 s)

-- `<meta` in either case, and ASCII whitespace or `/`
abbrev pub begins_meta : List ℕ → Bool
begins_meta s = begins_in_either_case s (codes "<meta") && is_separator (slice_index s 5)

-- `<` or `</` and a letter
abbrev pub begins_tag : List ℕ → Bool
begins_tag s =
    slice_index s 0 == 0x3C
    && (is_ascii_alphabetic (slice_index s 1)
    || (slice_index s 1 == 0x2F && is_ascii_alphabetic (slice_index s 2)))

-- `<!`, `</` or `<?`
abbrev pub begins_other : List ℕ → Bool
begins_other s =
    slice_index s 0 == 0x3C
    && ((slice_index s 1 == 0x21 || slice_index s 1 == 0x2F) || slice_index s 1 == 0x3F)

-- step 4 at a position that is not the end. The `--` of a comment's end may be those of its start.
abbrev pub turn : List ℕ → Turn
turn s =
    if starts_with nat_eq s (codes "<!--")
    then next_byte (unwrap_or (past_word (codes "-->") (drop 2 s)) [])
    else if begins_meta s then meta_turn (tag_attributes (drop 5 s))
    else if begins_tag s then tag_turn (tag_attributes (past (is_word_byte 0x3E) s))
    else if begins_other s then next_byte (drop 1 (past (is_not 0x3E) s))
    else next_byte (drop 1 s)

abbrev pub after_turn : (List ℕ → Option Encoding) → Turn → Option Encoding
after_turn loop (returns e) = Some e
after_turn loop (next_byte s) = loop s

-- the step "loop" and those after it, at most n times
abbrev pub loop : ℕ → List ℕ → Option Encoding
loop zero s = None
loop (suc n) [] = None
loop (suc n) (b ∷ s) = after_turn (loop n) (turn (b ∷ s))

-- The encoding that the markup declares. Each turn reads a byte at least, so the bytes run out
-- before the number does.
abbrev pub markup_encoding : List ℕ → Option Encoding
markup_encoding bytes = loop (length bytes) bytes

-- "Prescan a byte stream to determine its encoding"
abbrev pub prescan : List ℕ → Option Encoding
prescan bytes =
    option_or (utf_16_head bytes)
    (option_or (markup_encoding bytes) (xml_declaration_encoding bytes))

-- the prescan of the first 1024 bytes, as the standard recommends
abbrev pub html_encoding : List ℕ → Option Encoding
html_encoding bytes = prescan (take 1024 bytes)
