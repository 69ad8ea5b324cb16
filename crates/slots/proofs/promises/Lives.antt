-- CUT-SAFE, AND ANY SEQUENCE OF SAVES AND CUTS. Assumes nothing.
use Rattle.octets.proofs.Kit.{ℕ, ◌≤◌, refl, sym, subst, List, Bool, true, false, cond, arith, length}
use Rattle.slots.specs.{Slot.{longest, next_of}, Medium.{pieces, Did, Cut, Medium, Saved, Broken}}
use Rattle.slots.specs.Lives.{Older, none, last, Ready, one, two, Act, AllFit, Lives, begin, saves, cuts, last_of}
use Rattle.slots.specs.Medium as medium
use Rattle.slots.proofs.{Cuts.{Holds, kept, made, cut_slot, saved_slot}, promises.Numbered.{next_below, one_goal, two_goal}}

module _ (s t : List ℕ) (m : Medium) (short : length t ≤ longest) where
  -- A SAVE THAT WAS FINISHED
  pub save_ready : {m' : Medium} → Ready s m → Saved t m m' → Ready t m'
  save_ready (one n small h o) (medium.one e d) = let g = one_goal m n s h o in absurd (omega arith)
  save_ready (one n small h o) (medium.two {b = b} e d) =
      let g = one_goal m n s h o in
      let q : Did (pieces (next_of n) t) m.second b = subst (λ (k : ℕ). Did (pieces k t) m.second b) g.1 d in
      two (next_of n) (next_below n small) (saved_slot (next_of n) t (next_below n small) short m.second b q)
      (subst (Older (next_of n)) (sym h) (last n s small refl))
  save_ready (two n small h o) (medium.one {b = b} e d) =
      let g = two_goal m n s h o in
      let q : Did (pieces (next_of n) t) m.first b = subst (λ (k : ℕ). Did (pieces k t) m.first b) g.1 d in
      one (next_of n) (next_below n small) (saved_slot (next_of n) t (next_below n small) short m.first b q)
      (subst (Older (next_of n)) (sym h) (last n s small refl))
  save_ready (two n small h o) (medium.two e d) = let g = two_goal m n s h o in absurd (omega arith)

  -- CUT-SAFE: after any number of pieces and a torn one a unit starts with t exactly if the mark was set, else with s; and may save again
  pub cut_safe : (set : Bool) {m' : Medium} → Ready s m → Broken set t m m' → Ready (cond set t s) m'
  cut_safe set (one n small h o) (medium.one e d) = let g = one_goal m n s h o in absurd (omega arith)
  cut_safe set (one n small h o) (medium.two {b = b} e d) =
      let g = one_goal m n s h o in
      go set (cut_slot (next_of n) t (next_below n small) short set m.second b (subst (λ (k : ℕ). Cut set (pieces k t) m.second b) g.1 d))
    where
      go : (is : Bool) → Holds (next_of n) t m.second b is → Ready (cond is t s) record { first = m.first; second = b }
      go false (kept f) = one n small h (subst (Older n) (sym f) o)
      go false (made f) = one n small h (subst (Older n) (sym f) none)
      go true (made f) = two (next_of n) (next_below n small) f (subst (Older (next_of n)) (sym h) (last n s small refl))
  cut_safe set (two n small h o) (medium.one {b = b} e d) =
      let g = two_goal m n s h o in
      go set (cut_slot (next_of n) t (next_below n small) short set m.first b (subst (λ (k : ℕ). Cut set (pieces k t) m.first b) g.1 d))
    where
      go : (is : Bool) → Holds (next_of n) t m.first b is → Ready (cond is t s) record { first = b; second = m.second }
      go false (kept f) = two n small h (subst (Older n) (sym f) o)
      go false (made f) = two n small h (subst (Older n) (sym f) none)
      go true (made f) = one (next_of n) (next_below n small) f (subst (Older (next_of n)) (sym h) (last n s small refl))
  cut_safe set (two n small h o) (medium.two e d) = let g = two_goal m n s h o in absurd (omega arith)

-- AT REST, before the first piece of whatever is saved next, the power may go too: the medium is as it was
pub rest_cut : (s t : List ℕ) (m : Medium) → Ready s m → Broken false t m m
rest_cut s t m (one n small h o) = medium.two (one_goal m n s h o).0 medium.before
rest_cut s t m (two n small h o) = medium.one (two_goal m n s h o).0 medium.before

-- LIVES: after any sequence of saves and cuts a unit starts with the last sheet whose mark was set
pub lives : {s : List ℕ} {m y : Medium} {h : List Act} → Ready s m → AllFit h → Lives m h y → Ready (last_of s h) y
unfolding last_of
lives r f begin = r
lives {s} r f (saves {h = h} {x = x} {t = t} k d) = save_ready (last_of s h) t x f.0 (lives r f.1 k) d
lives {s} r f (cuts {h = h} {x = x} {set = set} {t = t} k d) = cut_safe (last_of s h) t x f.0 set (lives r f.1 k) d
