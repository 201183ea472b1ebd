-- Laws of one call of receiving: the lengths that it leaves, and its outcome from the tests that it makes.
-- Assumes nothing.
use mathlib.Core.Path.{◌≡◌, refl, sym, ap, ◌∙◌}
use mathlib.Core.Bool.{cond}
use mathlib.Core.List.{List}
use Prim.Native.Nat.{ℕ, suc, ◌<◌}
use native.Mathlib.Omega.{arith}
use lib.ListN.{length}
use borrow.Author.Tests.{ne_eqb}
use Rattle.bits.proofs.Tabulate.{length_tabulate}
use Rattle.bits.specs.definitions.Bits.{AllBytes}
use Rattle.bits.proofs.Fields.{length_bytes}
use Rattle.lanes.specs.definitions.Permutation.{Places, permuted, lanes_of, lane_bytes}
use Rattle.lanes.specs.definitions.Interleaver.{receiver, rows_out, store_next, deinterleaved_frame, deinterleaved_store}
use Rattle.lanes.proofs.Bytewise.{frame_bytes, permuted_lt, rows_out_lt, lanes_lt}
use Rattle.decoder.specs.definitions.Word.{flags_of}
use Rattle.pilots.specs.definitions.Pilots.{locks}
use Rattle.lane_words.specs.definitions.LaneWords.{word_lanes}
use Rattle.bits.specs.definitions.Call.{unless, after}
use Rattle.framing.specs.definitions.Receive.{received_words, brought_lanes, received_lanes, received_store, received_flags, words_number, ReceivesWords}
use Rattle.framing.specs.definitions.Receive.{receive_number, Receives}
use Rattle.bits.proofs.Calls.{passed, failed, passes, left, written}

-- ---- lengths

pub store_length : (a s : List ℕ) → length (deinterleaved_store a s) ≡ 2880
unfolding deinterleaved_store store_next
store_length a s = length_bytes _ _

pub lanes_length : (ex : Places) (a s : List ℕ) → length (deinterleaved_frame ex a s) ≡ 5280
unfolding deinterleaved_frame lane_bytes
lanes_length ex a s = length_bytes _ _

pub lanes_bytes : (ex : Places) (f s : List ℕ) → AllBytes (received_lanes ex f s)
unfolding deinterleaved_frame
lanes_bytes ex f s =
    let x = rows_out receiver s (lanes_of (brought_lanes f)) in
    frame_bytes (permuted ex x) (permuted_lt ex x (rows_out_lt receiver s (lanes_of (brought_lanes f)) (lanes_lt (brought_lanes f))))

pub flags_length : (f : List ℕ) → length (received_flags f) ≡ 384
unfolding received_flags flags_of
flags_length f = length_tabulate _ _

-- ---- the number, test by test

module _ (f s o g : List ℕ) where
  pub short_frame : (length f ≡ 6144 → ⊥) → receive_number f s o g ≡ 1
  unfolding receive_number
  short_frame h = failed 6144 f _ _ h

  pub short_store : length f ≡ 6144 → (length s ≡ 2880 → ⊥) → receive_number f s o g ≡ 2
  unfolding receive_number
  short_store h h' = passed 6144 f _ _ h ∙ failed 2880 s _ _ h'

  pub short_lanes : length f ≡ 6144 → length s ≡ 2880 → (length o ≡ 5280 → ⊥) → receive_number f s o g ≡ 3
  unfolding receive_number
  short_lanes h h' h'' = passed 6144 f _ _ h ∙ passed 2880 s _ _ h' ∙ failed 5280 o _ _ h''

  pub short_flags : length f ≡ 6144 → length s ≡ 2880 → length o ≡ 5280 → (length g ≡ 384 → ⊥) → receive_number f s o g ≡ 4
  unfolding receive_number
  short_flags h h' h'' h''' = passed 6144 f _ _ h ∙ passed 2880 s _ _ h' ∙ passed 5280 o _ _ h'' ∙ failed 384 g _ _ h'''

  -- with a whole frame and a whole store, the other two and the lock decide
  pub whole : length f ≡ 6144 → length s ≡ 2880 → receive_number f s o g ≡ unless 5280 o 3 (unless 384 g 4 (cond (locks f 0) 0 5))
  unfolding receive_number
  whole h h' = passed 6144 f _ _ h ∙ passed 2880 s _ _ h'

  -- with the right lengths, the lock
  pub all_lengths : length f ≡ 6144 → length s ≡ 2880 → length o ≡ 5280 → length g ≡ 384 → receive_number f s o g ≡ cond (locks f 0) 0 5
  all_lengths h h' h'' h''' = whole h h' ∙ passed 5280 o _ _ h'' ∙ passed 384 g _ _ h'''

  -- and an answer of 0 says that the lengths were right
  pub lent : receive_number f s o g ≡ 0 → (length o ≡ 5280) × (length g ≡ 384)
  unfolding receive_number
  lent e = let rest = passes 2880 s 1 _ (passes 6144 f 0 _ e).1 in let more = passes 5280 o 2 _ rest.1 in (more.0, (passes 384 g 3 _ more.1).0)

-- ---- a call that receives the words alone

pub words_short : (f : List ℕ) → (length f ≡ 6144 → ⊥) → words_number f ≡ 1
unfolding words_number
words_short f h = failed 6144 f _ _ h

pub words_lock : (f : List ℕ) → length f ≡ 6144 → words_number f ≡ cond (locks f 0) 0 5
unfolding words_number
words_lock f h = passed 6144 f _ _ h

pub words_refused : (f w g : List ℕ) (r : ℕ) → words_number f ≡ suc r → ReceivesWords f w g (suc r) w g
words_refused f w g r e = record { number = sym e; words = sym (left _ r _ w e); flags = sym (left _ r _ g e) }

pub words_done : (f w g w' g' : List ℕ) → words_number f ≡ 0 → w' ≡ received_words f → g' ≡ received_flags f → ReceivesWords f w g 0 w' g'
words_done f w g w' g' e p q = record { number = sym e; words = p ∙ sym (written _ _ w e); flags = q ∙ sym (written _ _ g e) }

-- ---- the outcome from the number

pub refused : (ex : Places) (f s o g : List ℕ) (r : ℕ) → receive_number f s o g ≡ suc r → Receives ex f s o g (suc r) s o g
refused ex f s o g r e = record { number = sym e; store = sym (left _ r _ s e); output = sym (left _ r _ o e); flags = sym (left _ r _ g e) }

-- with the right lengths, what receiving the words answered decides; the flags are lent to it
module _ (ex : Places) (f s o g : List ℕ) {w : List ℕ} {number : ℕ} {w' g' : List ℕ} (R : ReceivesWords f w g number w' g')
    (hf : length f ≡ 6144) (hs : length s ≡ 2880) (ho : length o ≡ 5280) (hg : length g ≡ 384) where
  same_number : number ≡ receive_number f s o g
  same_number = R.number ∙ words_lock f hf ∙ sym (all_lengths f s o g hf hs ho hg)

  flags_alike : g' ≡ after (receive_number f s o g) (received_flags f) g
  flags_alike = R.flags ∙ ap (λ (n : ℕ). after n (received_flags f) g) (sym R.number ∙ same_number)

  pub without_lock : {told : ℕ} → told ≡ number → 0 < number → Receives ex f s o g told s o g'
  without_lock e n =
      let kept : (new old : List ℕ) → old ≡ after (receive_number f s o g) new old
      = λ new old. rw (sym same_number, ne_eqb number 0 (λ z. absurd (omega arith))) refl in
      record { number = e ∙ same_number; store = kept _ s; output = kept _ o; flags = flags_alike }

  pub received : {told : ℕ} → told ≡ 0 → number ≡ 0 → {s' o' : List ℕ} → s' ≡ deinterleaved_store (word_lanes w') s
      → o' ≡ deinterleaved_frame ex (word_lanes w') s → Receives ex f s o g told s' o' g'
  unfolding brought_lanes
  received t z {s'} {o'} p q =
      let e : receive_number f s o g ≡ 0 = sym same_number ∙ z in
      let words : w' ≡ received_words f = R.words ∙ written _ _ w (sym R.number ∙ z) in
      record {
        number = t ∙ sym e;
        store = p ∙ ap (λ (x : List ℕ). deinterleaved_store (word_lanes x) s) words ∙ sym (written _ _ s e);
        output = q ∙ ap (λ (x : List ℕ). deinterleaved_frame ex (word_lanes x) s) words ∙ sym (written _ _ o e);
        flags = flags_alike;
      }

-- and the other way: a call that answered 0 is done
pub done :
    (ex : Places) (f s o g : List ℕ) (r : ℕ) (s' o' g' : List ℕ) → r ≡ 0 → Receives ex f s o g r s' o' g'
    → (s' ≡ received_store f s) × (o' ≡ received_lanes ex f s) × (g' ≡ received_flags f)
done ex f s o g r s' o' g' e C =
    let z : receive_number f s o g ≡ 0 = sym C.number ∙ e in
    (C.store ∙ written _ _ s z, C.output ∙ written _ _ o z, C.flags ∙ written _ _ g z)
