-- A frame entered by its flag bytes, for a host in C.
-- Assumes nothing.
use Rattle.std.specs.Prelude.{cond, List, ℕ, eqb, length}
use Rattle.account.specs.declared.Account.{Account}
use Rattle.account.specs.definitions.Account.{Entry}
use Rattle.account.specs.definitions.Account.{tallies_of, frame_entered}

-- refusal 4 for other than 384 flag bytes, before what the account refuses; else the frame with the tallies of its flags
unfoldable pub flags_entered : Account → ℕ → List ℕ → Entry
flags_entered a got flags = cond (eqb (length flags) 384) (frame_entered a got (tallies_of a got flags)) (record { refusal = 4; account = a })
