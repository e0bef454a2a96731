-- The encoding that an XML declaration names (HTML Standard 13.2.3.2, "get an XML encoding").
use Rattle.std.specs.Prelude.{ℕ, Bool, ◌&&◌, if◌then◌else◌, nat_eq, nat_le, ◌==◌, List, [], ◌∷◌}
use Rattle.std.specs.Prelude.{Option, Some, None, option_map, option_and_then, codes}
use Rattle.enc_names.specs.declared.encoding_id.EncodingId.TheVariants.{Utf16be, Utf16le}
use Rattle.std.specs.List.{list_any, starts_with}
use Rattle.std.specs.Option.{option_or}
use Rattle.enc_stream.specs.declared.encoding.Encoding.{Encoding}
use Rattle.enc_stream.specs.Labels.{encoding_of_label}
use Rattle.enc_sniff.specs.Positions.{past, up_to, past_word, is_quote}
use Rattle.enc_sniff.specs.Labels.{without_utf_16}

-- a byte that is an ASCII space or a control character
abbrev pub is_control : ℕ → Bool
is_control b = nat_le b 0x20

-- steps 2 and 3: `<?xml` stands at the start, and a `>` somewhere
abbrev pub has_declaration : List ℕ → Bool
has_declaration bytes = starts_with nat_eq bytes (codes "<?xml") && list_any (λ b. b == 0x3E) bytes

-- steps 10 to 14: the bytes between two quotation marks
abbrev pub quoted : List ℕ → Option (List ℕ)
quoted [] = None
quoted (quote_mark ∷ s) =
    if is_quote quote_mark then option_map (λ found. found.0) (up_to quote_mark s) else None

-- steps 7 to 9: the position after `=`
abbrev pub after_sign : List ℕ → Option (List ℕ)
after_sign [] = None
after_sign (b ∷ s) = if b == 0x3D then quoted (past is_control s) else None

-- steps 4 to 14: what stands in quotation marks after `encoding` and `=`
abbrev pub potential_encoding : List ℕ → Option (List ℕ)
potential_encoding bytes =
    option_and_then (λ s. after_sign (past is_control s)) (past_word (codes "encoding") bytes)

-- steps 15 to 18
abbrev pub encoding_named : List ℕ → Option Encoding
encoding_named label =
    if list_any is_control label then None
    else option_map without_utf_16 (encoding_of_label label)

-- "Get an XML encoding"
abbrev pub xml_declaration_encoding : List ℕ → Option Encoding
xml_declaration_encoding bytes =
    if has_declaration bytes then option_and_then encoding_named (potential_encoding bytes)
    else None

-- `<?x` in UTF-16LE and in UTF-16BE
abbrev pub utf_16le_head : List ℕ
utf_16le_head = 0x3C ∷ 0 ∷ 0x3F ∷ 0 ∷ 0x78 ∷ 0 ∷ []

abbrev pub utf_16be_head : List ℕ
utf_16be_head = 0 ∷ 0x3C ∷ 0 ∷ 0x3F ∷ 0 ∷ 0x78 ∷ []

-- The encoding of `<?x` in UTF-16 without a byte order mark (step 3 of "prescan a byte stream to
-- determine its encoding"; XML 1.0, appendix F.1).
abbrev pub utf_16_head : List ℕ → Option Encoding
utf_16_head bytes =
    if starts_with nat_eq bytes utf_16le_head then Some (record { id = Utf16le })
    else if starts_with nat_eq bytes utf_16be_head then Some (record { id = Utf16be })
    else None

-- the encoding of the head of an XML document
abbrev pub xml_encoding : List ℕ → Option Encoding
xml_encoding bytes = option_or (utf_16_head bytes) (xml_declaration_encoding bytes)
