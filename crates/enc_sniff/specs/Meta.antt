-- What a `meta` element declares (HTML Standard 13.2.3.2, "prescan a byte stream to determine its
-- encoding", step 4, at `<meta`).
--
-- `Meta` has the standard's variables: its attribute list, of which only three names count, as
-- whether it has each of these; "got pragma"; "need pragma", where `None` is null; and "charset",
-- where `None` is null and `Some None` is failure.
use Rattle.std.specs.Prelude.{ℕ, Bool, true, false, ◌||◌, not, if◌then◌else◌, List, Option, Some}
use Rattle.std.specs.Prelude.{None, is_some, option_map, codes}
use Rattle.enc_stream.specs.declared.encoding.Encoding.{Encoding}
use Rattle.enc_stream.specs.Labels.{encoding_of_label}
use Rattle.enc_sniff.specs.declared.meta.Meta.{Meta}
use Rattle.enc_sniff.specs.Positions.{is_same_word}
use Rattle.enc_sniff.specs.Labels.{usable}
use Rattle.enc_sniff.specs.Attributes.{Attribute}
use Rattle.enc_sniff.specs.Content.{content_encoding}

-- steps 2 to 5
abbrev pub fresh_meta : Meta
fresh_meta =
    record {
      has_http_equiv = false;
      has_content = false;
      has_charset = false;
      got_pragma = false;
      need_pragma = None;
      charset = None;
    }

-- steps 7 to 9 at `http-equiv`
abbrev pub with_http_equiv : Meta → List ℕ → Meta
with_http_equiv m value =
    if m.has_http_equiv then m
    else record m { has_http_equiv = true; got_pragma = is_same_word value (codes "content-type") }

-- an encoding that `content` declares counts if no other was declared
abbrev pub with_extracted : Meta → Option Encoding → Meta
with_extracted m None = m
with_extracted m (Some e) =
    if is_some m.charset then m else record m { charset = Some (Some e); need_pragma = Some true }

-- steps 7 to 9 at `content`
abbrev pub with_content : Meta → List ℕ → Meta
with_content m value =
    if m.has_content then m
    else with_extracted (record m { has_content = true }) (content_encoding value)

-- steps 7 to 9 at `charset`
abbrev pub with_charset : Meta → List ℕ → Meta
with_charset m value =
    if m.has_charset then m
    else record m {
      has_charset = true;
      charset = Some (encoding_of_label value);
      need_pragma = Some false;
    }

-- steps 7 to 9. The attribute list has the names that were read, and of these only three count.
abbrev pub with_attribute : Meta → Attribute → Meta
with_attribute m a =
    if is_same_word a.name (codes "http-equiv") then with_http_equiv m a.value
    else if is_same_word a.name (codes "content") then with_content m a.value
    else if is_same_word a.name (codes "charset") then with_charset m a.value
    else m

-- steps 11 and 12: whether the pragma that an encoding in `content` needs is there
abbrev pub has_needed_pragma : Option Bool → Bool → Bool
has_needed_pragma None got_pragma = false
has_needed_pragma (Some need_pragma) got_pragma = not need_pragma || got_pragma

-- a charset that is neither null nor failure (step 13)
abbrev pub known_charset : Option (Option Encoding) → Option Encoding
known_charset None = None
known_charset (Some e) = e

-- steps 11 to 16, "processing"
abbrev pub meta_encoding : Meta → Option Encoding
meta_encoding m =
    if has_needed_pragma m.need_pragma m.got_pragma
    then option_map usable (known_charset m.charset)
    else None
