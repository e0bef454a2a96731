-- Checked arithmetic of usize: a step that overflows makes the whole formula `None`.
use Rattle.std.specs.Prelude.{ℕ, ◌+◌, ◌*◌, ◌/◌, ◌^◌, Option, Some, None, nat_lt, max, if◌then◌else◌}

-- a number, if it is a usize
abbrev pub checked_usize : ℕ → Option ℕ
checked_usize n = if nat_lt n (2 ^ 64) then Some n else None

-- a checked sum
abbrev pub checked_add : Option ℕ → ℕ → Option ℕ
checked_add None b = None
checked_add (Some a) b = checked_usize (a + b)

-- a checked product
abbrev pub checked_mul : Option ℕ → ℕ → Option ℕ
checked_mul None b = None
checked_mul (Some a) b = checked_usize (a * b)

-- half of it, rounded down
abbrev pub checked_half : Option ℕ → Option ℕ
checked_half None = None
checked_half (Some a) = Some (a / 2)

-- the greater of two, or `None` if one is `None`
abbrev pub checked_max : Option ℕ → Option ℕ → Option ℕ
checked_max None b = None
checked_max (Some a) None = None
checked_max (Some a) (Some b) = Some (max a b)
