-- What it is that a function's contract fixes its outcome: for every crate's `Determined`.
-- Assumes nothing.
use mathlib.Core.Path.{◌≡◌}
use mathlib.Core.List.{List}
use Prim.Native.Nat.{ℕ}
use seplogic.Ra.Ura.{Ura}
use contract.Lifetimes.{Lfts}
use contract.Monad.{fact}
use denote.Triple.Entry.{Args, Res}
use denote.Triple.Clauses.{Ended, AtExit, Clauses}
use borrow.Fn.Kinds.{ParamKind, ResultKind, Out, Dens, res_t, ended_of}

-- Of two outcomes of one call that both satisfy the `ensures`, the results x and y are equal, and so are the buffers at exit, which `buffers` compares: all
-- that a `&mut` parameter lends. The function has n lifetimes, parameters of the kinds ps and a result of the kind r.
abbrev pub Fixes : (n : ℕ) (ps : List (ParamKind n)) (r : ResultKind n) → Out n ps r
    → ((κs : Lfts n) → AtExit (ended_of n ps r) κs → AtExit (ended_of n ps r) κs → Type 0) → Type 0
Fixes n ps r ensures buffers =
    (κs : Lfts n) (a : Dens κs ps) (x y : (res_t r κs).Denot) (s t : AtExit (ended_of n ps r) κs) → ensures κs a x s → ensures κs a y t
    → (x ≡ y) × buffers κs s t

-- The same where the result's type says more of a result than its contract does: the list of an array has the array's length, which `typed` states.
abbrev pub FixesTyped : (n : ℕ) (ps : List (ParamKind n)) (r : ResultKind n) → ((κs : Lfts n) → (res_t r κs).Denot → Type 0) → Out n ps r
    → ((κs : Lfts n) → AtExit (ended_of n ps r) κs → AtExit (ended_of n ps r) κs → Type 0) → Type 0
FixesTyped n ps r typed ensures buffers =
    (κs : Lfts n) (a : Dens κs ps) (x y : (res_t r κs).Denot) (s t : AtExit (ended_of n ps r) κs) → typed κs x → typed κs y → ensures κs a x s
    → ensures κs a y t → (x ≡ y) × buffers κs s t

-- The same of a function's clauses as they stand in the logic: the `ensures` there is a plain fact `says` of the result and of the parameters at exit, and two
-- outcomes of one call of which that holds are alike.
abbrev pub FixesSaid : {M : Type 1} (𝓤 : Ura M) (T : Ended) → Clauses 𝓤 T
    → ((κs : Lfts T.signature.lifetimes) → (x y : Res T.signature κs) (s t : AtExit T κs) → Type 0) → Type 2
FixesSaid 𝓤 T clauses alike =
    (κs : Lfts T.signature.lifetimes) (a : Args T.signature κs) (g : (clauses κs a).ghost)
    → (says : Res T.signature κs → AtExit T κs → Type 0)
    × ((x : Res T.signature κs) (s : AtExit T κs) → (clauses κs a).ensures g x s ≡ fact 𝓤 (says x s))
    × ((x y : Res T.signature κs) (s t : AtExit T κs) → says x s → says y t → alike κs x y s t)
