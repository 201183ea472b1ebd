-- The symbols of a frame that was read are all there.
-- Assumes nothing.
use mathlib.Core.Path.{◌≡◌, refl, sym, ap, ◌∙◌}
use mathlib.Core.List.{List}
use Prim.Native.Nat.{ℕ, ◌≤◌, min}
use native.Mathlib.Omega.{arith}
use lib.ListN.{length, drop, length-take, length-drop}
use Rattle.capture.specs.definitions.Read.{Read, End, Refused, Order, Frame}
use Rattle.capture.specs.definitions.Capture.{read_at, read_one}
use Rattle.capture.proofs.Cases.{symbols_are}
use Rattle.capture.proofs.Found.{frame_found}
use Rattle.capture.proofs.One.{is_refused, one_whole}
use Rattle.bench.specs.private.Frame.{SymbolsThere}

-- a frame's symbols are all there
pub symbols_there : (s : List ℕ) (i : ℕ) (read : Read) → read ≡ read_at s i → SymbolsThere read s
symbols_there s i End e = tt
symbols_there s i (Refused refusal) e = tt
symbols_there s i (Order start asked allowed next) e = tt
symbols_there s i (Frame number from next) e =
    let F = frame_found s i (sym e) in
    let inside = F.whole.inside in
    let at = F.from_is in
    ap length (symbols_are s from (omega arith)) ∙ length-take 6144 (drop from s) ∙ least (length (drop from s)) (let d = length-drop from s in omega arith)
  where
    least : (n : ℕ) → 6144 ≤ n → min 6144 n ≡ 6144
    least n l = omega arith

-- nor are they missing where one record is read alone
pub symbols_alone : (s : List ℕ) (read : Read) → read ≡ read_one s → SymbolsThere read s
unfolding is_refused
symbols_alone s End e = tt
symbols_alone s (Refused refusal) e = tt
symbols_alone s (Order start asked allowed next) e = tt
symbols_alone s (Frame number from next) e = symbols_there s 0 (Frame number from next) (sym (one_whole s (Frame number from next) refl (sym e)).0)
