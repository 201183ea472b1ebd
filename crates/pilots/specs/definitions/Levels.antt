-- Levels (01, levels; 000, 6): the signed level of a two-bit label, and the label of a level.
-- Assumes nothing.
use Rattle.std.specs.Prelude.{ℕ, zero, suc, ℤ, pos, negsuc, Option, Some, None}

-- 00 is -3, 01 is -1, 11 is +1, 10 is +3; a value above 3 has no level
unfoldable pub level_of : ℕ → Option ℤ
level_of zero = Some (negsuc 2)
level_of (suc zero) = Some (negsuc 0)
level_of (suc (suc zero)) = Some (pos 3)
level_of (suc (suc (suc zero))) = Some (pos 1)
level_of (suc (suc (suc (suc n)))) = None

-- and back, from -1 down and from 0 up; any other level has no label
unfoldable pub label_of : ℤ → Option ℕ
label_of (negsuc zero) = Some 1
label_of (negsuc (suc zero)) = None
label_of (negsuc (suc (suc zero))) = Some 0
label_of (negsuc (suc (suc (suc n)))) = None
label_of (pos zero) = None
label_of (pos (suc zero)) = Some 3
label_of (pos (suc (suc zero))) = None
label_of (pos (suc (suc (suc zero)))) = Some 2
label_of (pos (suc (suc (suc (suc n))))) = None
