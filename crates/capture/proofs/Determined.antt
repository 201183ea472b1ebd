-- Each public function's contract fixes its outcome: two outcomes of one call that satisfy its `ensures`, as the source states it, are equal.
-- Of a part that is handed back the content is fixed.
-- Assumes nothing.
use mathlib.Core.Path.{◌≡◌, refl, sym, ◌∙◌}
use seplogic.Ra.Ura.{Ura}
use base.Logic.{SProp}
use prog.Memory.{Memory}
use prog.Routine.{Routine}
use types.Logic.{Logic}
use contract.Lifetimes.{Lfts}
use contract.Monad.{Fun}
use denote.RattleType.{RattleType}
use denote.Param.Laws.{Laws, IsCopy}
use mir.Syntax.{Dict}
use Rattle.std.specs.declared.clone.Clone.{Ghosts}
use denote.Triple.Clauses.{AtExit}
use borrow.Fn.Kinds.{Dens, res_t, ended_of}
use Rattle.bits.proofs.Fixes.{Fixes, FixesSaid}
use Prim.Native.Nat.{ℕ}
use Rattle.std.proofs.Common.{arith, Option, Some, None, Result, Ok, Err}
use Rattle.refusal.specs.declared.Refusal.{Refusal}
use Rattle.refusal.specs.definitions.Refusal.{number_of}
use Rattle.refusal.proofs.Numbers.{answer_injective}
use Rattle.capture.specs.declared.Reader.{Reader}
use Rattle.capture.specs.declared.Record.{Record}
use Rattle.capture.specs.definitions.Read.{read_in, standing_in}
use Rattle.capture.specs.definitions.Capture.{read_at, symbols_at, next_of}
use Rattle.capture.proofs.read_at.Kinds as read-kinds
use Rattle.capture.proofs.read_at.Reads as read-reads
use Rattle.capture.proofs.symbols_at.Kinds as symbols-kinds
use Rattle.capture.proofs.symbols_at.Reads as symbols-reads
use Rattle.capture.proofs.Record.next.Kinds as behind-kinds
use Rattle.capture.proofs.Record.next.Reads as behind-reads
use Rattle.capture.proofs.next_place.Kinds as place-kinds
use Rattle.capture.proofs.next_place.Reads as place-reads
use Rattle.capture.proofs.wanted.Kinds as wanted-kinds
use Rattle.capture.proofs.wanted.Reads as wanted_reads
use Rattle.capture.proofs.read_one.Kinds as one-kinds
use Rattle.capture.proofs.read_one.Reads as one-reads
use Rattle.capture.specs.contracts.Reader.begin as begin
use Rattle.capture.specs.contracts.Reader.next as next
use Rattle.capture.specs.contracts.Reader.moved as moved
use Rattle.capture.specs.contracts.Reader.symbols as symbols

-- an answer is known by what stands there
read_injective : (x y : Result (Option Record) Refusal) → read_in x ≡ read_in y → x ≡ y
read_injective (Err r) (Err s) e =
    let same : number_of r ≡ number_of s = cc in let f : ◌≡◌ {A = Result Unit Refusal} (Err r) (Err s) = answer_injective same in cc
read_injective x y e = grind arith

-- what was read, and no buffer
pub read_at_determined : Fixes 1 read-kinds.ps read-kinds.r read-reads.Post (λ κs s t. Unit)
read_at_determined κs a x y s t p q = (read_injective x y (p ∙ sym q), tt)

pub read_one_determined : Fixes 1 one-kinds.ps one-kinds.r one-reads.Post (λ κs s t. Unit)
read_one_determined κs a x y s t p q = (read_injective x y (p ∙ sym q), tt)

-- the content of the part
pub symbols_at_determined : (κs : Lfts 1) (a : Dens κs symbols-kinds.ps) (x y : (res_t symbols-kinds.r κs).Denot)
    (s t : AtExit (ended_of 1 symbols-kinds.ps symbols-kinds.r) κs)
    → symbols-reads.Post κs a x s → symbols-reads.Post κs a y t → x.now ≡ y.now
symbols_at_determined κs a x y s t p q = p ∙ sym q

-- a place
pub record_next_determined : Fixes 1 behind-kinds.ps behind-kinds.r behind-reads.Post (λ κs s t. Unit)
record_next_determined κs a x y s t p q = (p ∙ sym q, tt)

-- whatever tells of a refusal; told by this crate's, the place is the one behind what was read
pub standing_read : (r : Result (Option Record) Refusal) (i : ℕ) → next_of (standing_in r) i ≡ next_of (read_in r) i
standing_read (Ok None) i = refl
standing_read (Ok (Some x)) i = refl
standing_read (Err refusal) i = refl

pub next_place_determined : (T : RattleType) (laws : Laws T) (copy : IsCopy T) (ghosts : Ghosts T.Denot) (cloned : Dict)
    → Fixes 1 (place-kinds.ps T laws copy) (place-kinds.r T laws copy) (place-reads.Post T laws copy ghosts cloned) (λ κs s t. Unit)
next_place_determined T laws copy ghosts cloned κs a x y s t p q = (p ∙ sym q, tt)

-- a number of bytes
pub wanted_determined : Fixes 1 wanted-kinds.ps wanted-kinds.r wanted_reads.Post (λ κs s t. Unit)
wanted_determined κs a x y s t p q = (p ∙ sym q, tt)

-- The functions of the reader, over what their clauses say.

-- two readers, by their fields
alike : {x y : Reader} → x.capture ≡ y.capture → x.place ≡ y.place → x ≡ y
alike p q = λ k. record { capture = p k; place = q k }

module _ {M : Type 1} {𝓤 : Ura M} (𝓛 : Logic 𝓤) (mem : Memory → SProp 𝓤) (run : Routine → Fun 𝓤) where
  pub begin_determined : FixesSaid 𝓤 begin.ended (begin.clauses 𝓛 mem run) (λ κs x y s t. x ≡ y)
  begin_determined κs a g =
      ((λ r s. (r.capture ≡ a.0) × (r.place ≡ 0)), (λ x s. refl), (λ x y s t p q. alike (p.0 ∙ sym q.0) (p.1 ∙ sym q.1)))

  pub next_determined : FixesSaid 𝓤 next.ended (next.clauses 𝓛 mem run) (λ κs x y s t. x ≡ y)
  next_determined κs a g =
      ((λ r s. read_in r ≡ read_at a.0.capture.now a.0.place), (λ x s. refl), (λ x y s t p q. read_injective x y (p ∙ sym q)))

  pub moved_determined : FixesSaid 𝓤 moved.ended (moved.clauses 𝓛 mem run) (λ κs x y s t. x ≡ y)
  moved_determined κs a g =
      ((λ r s. (r.capture ≡ a.0.capture) × (r.place ≡ a.1.0)), (λ x s. refl), (λ x y s t p q. alike (p.0 ∙ sym q.0) (p.1 ∙ sym q.1)))

  pub symbols_determined : FixesSaid 𝓤 symbols.ended (symbols.clauses 𝓛 mem run) (λ κs x y s t. x.now ≡ y.now)
  symbols_determined κs a g = ((λ r s. r.now ≡ symbols_at a.0.capture.now a.1.0), (λ x s. refl), (λ x y s t p q. p ∙ sym q))
