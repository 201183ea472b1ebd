-- `traffic::State::jump` ends: the number of bits is halved. Assumes nothing.
use Rattle.traffic.proofs.State.+jump.Given as goal

abbrev pub decreases-jump : goal.decreases-jump
decreases-jump l = l.bits
