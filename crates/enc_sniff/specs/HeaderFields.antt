-- The fields of the header of a mail (RFC 5322 2.2). A line ends with a line feed, and a carriage
-- return before that is white space of the field.
use Rattle.std.specs.Prelude.{ℕ, Bool, ◌&&◌, ◌||◌, not, if◌then◌else◌, nat_eq, ◌==◌, List, [], ◌∷◌}
use Rattle.std.specs.Prelude.{length, drop, Option, Some, None, slice_index}
use Rattle.std.specs.List.{starts_with}
use Rattle.std.specs.Option.{option_or}
use Rattle.enc_sniff.specs.Positions.{past, begins_in_either_case}

-- a space or a tab (RFC 5234, "WSP")
abbrev pub is_wsp : ℕ → Bool
is_wsp b = b == 0x20 || b == 0x09

-- The bytes of a field from a position on: up to the first line feed, unless the line after it
-- begins with a space or a tab, and so goes on with the field (2.2.3).
abbrev pub field_bytes : List ℕ → List ℕ
field_bytes [] = []
field_bytes (b ∷ s) =
    if b == 0x0A && not (is_wsp (slice_index s 0)) then [] else b ∷ field_bytes s

-- the body of a field after its colon
abbrev pub body_after_colon : List ℕ → Option (List ℕ)
body_after_colon [] = None
body_after_colon (b ∷ s) = if b == 0x3A then Some (field_bytes s) else None

-- The body of a field of this name, in either case, that begins at this line. Spaces and tabs may
-- stand before the colon (4.5.8).
abbrev pub body_at_line : List ℕ → List ℕ → Option (List ℕ)
body_at_line name s =
    if begins_in_either_case s name then body_after_colon (past is_wsp (drop (length name) s))
    else None

-- whether a line is empty
abbrev pub is_empty_line : List ℕ → Bool
is_empty_line s = starts_with nat_eq s (0x0A ∷ []) || starts_with nat_eq s (0x0D ∷ 0x0A ∷ [])

-- The field at a line, or else one of the lines after it. An empty line ends the header.
abbrev pub field_or_later : List ℕ → List ℕ → Option (List ℕ) → Option (List ℕ)
field_or_later name s later =
    if is_empty_line s then None else option_or (body_at_line name s) later

-- the first field of this name in the lines after this one
abbrev pub later_field : List ℕ → List ℕ → Option (List ℕ)
later_field name [] = None
later_field name (b ∷ s) =
    if b == 0x0A then field_or_later name s (later_field name s) else later_field name s

-- the body of the first field of this name, in the header that begins at this line
abbrev pub first_field : List ℕ → List ℕ → Option (List ℕ)
first_field name s = field_or_later name s (later_field name s)
