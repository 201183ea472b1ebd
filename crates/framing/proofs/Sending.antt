-- Laws of one call of sending: the lengths that it leaves, and its outcome from the tests that it makes.
-- Assumes nothing.
use mathlib.Core.Path.{◌≡◌, sym, ◌∙◌}
use mathlib.Core.List.{List}
use Prim.Native.Nat.{ℕ, suc}
use lib.ListN.{length}
use Rattle.bits.proofs.Tabulate.{length_tabulate}
use Rattle.bits.proofs.Fields.{length_bytes}
use Rattle.lanes.specs.definitions.Permutation.{Places}
use Rattle.lanes.specs.definitions.Interleaver.{interleaved_store, store_next}
use Rattle.symbols.specs.definitions.Frame.{frame_of}
use Rattle.framing.specs.definitions.Send.{sent_frame, send_number, Sends}
use Rattle.bits.proofs.Calls.{passed, failed, left, written}

-- ---- lengths

pub store_length : (ex : Places) (a s : List ℕ) → length (interleaved_store ex a s) ≡ 2880
unfolding interleaved_store store_next
store_length ex a s = length_bytes _ _

pub frame_length : (ex : Places) (a s : List ℕ) → length (sent_frame ex a s) ≡ 6144
unfolding sent_frame frame_of
frame_length ex a s = length_tabulate _ _

-- ---- the number, test by test

module _ (a s o : List ℕ) where
  pub short_lanes : (length a ≡ 5280 → ⊥) → send_number a s o ≡ 1
  unfolding send_number
  short_lanes h = failed 5280 a _ _ h

  pub short_store : length a ≡ 5280 → (length s ≡ 2880 → ⊥) → send_number a s o ≡ 2
  unfolding send_number
  short_store h h' = passed 5280 a _ _ h ∙ failed 2880 s _ _ h'

  pub short_frame : length a ≡ 5280 → length s ≡ 2880 → (length o ≡ 6144 → ⊥) → send_number a s o ≡ 3
  unfolding send_number
  short_frame h h' h'' = passed 5280 a _ _ h ∙ passed 2880 s _ _ h' ∙ failed 6144 o _ _ h''

  pub all_lengths : length a ≡ 5280 → length s ≡ 2880 → length o ≡ 6144 → send_number a s o ≡ 0
  unfolding send_number
  all_lengths h h' h'' = passed 5280 a _ _ h ∙ passed 2880 s _ _ h' ∙ passed 6144 o _ _ h''

-- ---- the outcome from the number

pub refused : (ex : Places) (a s o : List ℕ) (r : ℕ) → send_number a s o ≡ suc r → Sends ex a s o (suc r) s o
refused ex a s o r e = record { number = sym e; store = sym (left _ r _ s e); output = sym (left _ r _ o e) }

pub sent : (ex : Places) (a s o s' o' : List ℕ) → send_number a s o ≡ 0 → s' ≡ interleaved_store ex a s → o' ≡ sent_frame ex a s → Sends ex a s o 0 s' o'
sent ex a s o s' o' e p q = record { number = sym e; store = p ∙ sym (written _ _ s e); output = q ∙ sym (written _ _ o e) }

-- and the other way: with the right lengths a call is done
pub done :
    (ex : Places) (a s o : List ℕ) (r : ℕ) (s' o' : List ℕ) → length a ≡ 5280 → length s ≡ 2880 → length o ≡ 6144 → Sends ex a s o r s' o'
    → (r ≡ 0) × (s' ≡ interleaved_store ex a s) × (o' ≡ sent_frame ex a s)
done ex a s o r s' o' h h' h'' C =
    let z : send_number a s o ≡ 0 = all_lengths a s o h h' h'' in
    (C.number ∙ z, C.store ∙ written _ _ s z, C.output ∙ written _ _ o z)
