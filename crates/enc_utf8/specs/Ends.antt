-- The offsets at which four characters of one byte or two end.
use Rattle.std.specs.Prelude.{ℕ, zero, suc, ◌%◌, List, [], get_or}
use Rattle.enc_utf8.specs.declared.ends.TheConstants.{ENDS}

-- the offsets at which four characters end, by which of eight bytes are the lead of a pair
abbrev pub four_ends : ℕ → List ℕ
four_ends leads = get_or ENDS (leads % 0x100) []

-- the offset at which the first n characters end
abbrev pub end_after : List ℕ → ℕ → ℕ
end_after ends zero = 0
end_after ends (suc n) = get_or ends n 0
