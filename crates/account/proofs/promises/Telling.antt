-- WHAT MARKS SAY: they are those of the history of the events that were played. Assumes nothing.
use Rattle.octets.proofs.Kit.{ℕ, zero, suc, ◌+◌, ◌≡◌, refl, sym, ap, ap₂, ◌∙◌, ◌⊎◌, inl, inr, Bool, true, false, cond, List, [], ◌∷◌, ◌++◌, reverse, reverse-cons, append_assoc, length, get_or}
use Rattle.octets.proofs.Kit.{replicate, length-replicate, eqb, arith}
use Rattle.octets.proofs.Truths.{decided}
use Rattle.device.specs.Events.{State}
use Rattle.events.specs.Events.{Event, after}
use Rattle.history.specs.{History.First, Keeps.state_after, Rightful.ours}
use Rattle.account.specs.{Account.{Origin, never, at, byte_at, level_on, last_other}, Marks.{mark_of, mark_after, number_of, MarkedRun, Tell}}

module _ (f : First) (look : State → ℕ) where
  Number : List Event → ℕ
  Number h = number_of (last_other ours f look h)

  -- one event more
  one_more_lem :
      (h : List Event) (e : Event) →
      mark_of (look (state_after ours f h)) (look (state_after ours f (e ∷ h))) (Number h) (length h + 1) ≡ Number (e ∷ h)
  unfolding last_other Number
  one_more_lem h e = go (decided T)
    where
      T : Bool
      T = eqb (look (state_after ours f (e ∷ h))) (look (state_after ours f h))

      go : (T ≡ true) ⊎ (T ≡ false) → cond T (Number h) (length h + 1) ≡ number_of (cond T (last_other ours f look h) (at h e))
      go (inl y) = rw y
      go (inr y) = rw y (omega arith)

  -- THE MARK AFTER A RUN THAT GOES ON FROM A HISTORY IS THAT OF THE LONGER HISTORY
  pub mark_tells :
      (es h : List Event) → mark_after look (length h) (state_after ours f h) es (number_of (last_other ours f look h)) ≡ number_of (last_other ours f look (reverse es ++ h))
  unfolding mark_after state_after after Number
  mark_tells [] h = refl
  mark_tells (e ∷ es) h =
      let k : length h + 1 ≡ suc (length h) = omega arith in
      ap₂ (λ (n m : ℕ). mark_after look n (state_after ours f (e ∷ h)) es m) k (one_more_lem h e)
      ∙ mark_tells es (e ∷ h)
      ∙ ap (λ (l : List Event). number_of (last_other ours f look l)) (sym (ap (λ (l : List Event). l ++ h) (reverse-cons e es) ∙ append_assoc (reverse es) (e ∷ []) h))

-- AT FIRST ALL MARKS ARE 0
pub tells_nothing : (f : First) → Tell f [] (replicate {A = ℕ} (length f.sheet + 2) 0)
unfolding last_other
tells_nothing f =
    record {
      long = length-replicate {A = ℕ} (length f.sheet + 2) 0;
      bytes = λ p h. zeros (length f.sheet + 2) p;
      levels = λ c h. zeros (length f.sheet + 2) (length f.sheet + c);
    }
  where
    zeros : (n p : ℕ) → ◌≡◌ {A = ℕ} (get_or {A = ℕ} (replicate {A = ℕ} n 0) p 0) 0
    zeros zero p = refl
    zeros (suc n) zero = refl
    zeros (suc n) (suc p) = zeros n p

-- AND AFTER EVERY RUN THAT GOES ON THEY TELL THE LONGER HISTORY
pub tells_on :
    (f : First) (h es : List Event) (m m' : List ℕ) → Tell f h m → MarkedRun (state_after ours f h) es (length h) (length f.sheet) m m' →
    Tell f (reverse es ++ h) m'
tells_on f h es m m' t r =
    record {
      long = r.same ∙ t.long;
      bytes = λ p l. r.bytes p l ∙ ap (mark_after (byte_at p) (length h) (state_after ours f h) es) (t.bytes p l) ∙ mark_tells f (byte_at p) es h;
      levels = λ c l. r.levels c l ∙ ap (mark_after (level_on c) (length h) (state_after ours f h) es) (t.levels c l) ∙ mark_tells f (level_on c) es h;
    }

-- a mark is 0 exactly if there is no such event, else the number of the one there is
pub none_told : (o : Origin) → number_of o ≡ 0 → o ≡ never
none_told never e = refl
none_told (at h e) z = absurd (omega (arith, z))
