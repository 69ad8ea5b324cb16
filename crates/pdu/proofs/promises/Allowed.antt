-- The test of a row says what the row allows.
use Rattle.octets.proofs.Kit.{ℕ, ◌+◌, ◌*◌, ◌≤◌, ◌<◌, ◌≡◌, ◌↔◌, inl, inr, ⊎_elim, Bool, true, ◌&&◌, List, [], ◌∷◌, leb, ltb, eqb}
use Rattle.octets.proofs.Truths.{and_is, or_is, below_is, at_most_is, equal_is}
use Rattle.pdu.specs.{Item.{Item, low, num, cap, duo, skip, Tail, none, by, twice, between, group, Row, Value, the}, Rules.{under, suits, fits, head_of}}
use Rattle.pdu.specs.Allows.{AllWithin, Length, Allows, AllWide}

below_and : (y m : ℕ) (t : Bool) (A B : Type 0) → (t ≡ true) ↔ (A × B) → ((ltb y m && t) ≡ true) ↔ (((y < m) × A) × B)
below_and y m t A B i = (
  λ e.
      let h = (and_is (ltb y m) t).0 e in
      let g = i.0 h.1 in
      (((below_is y m).0 h.0, g.0), g.1),
  λ h. (and_is (ltb y m) t).1 ((below_is y m).1 h.0.0, i.1 (h.0.1, h.1)),
)

under_is : (is : List Item) (x : List Value) (t : Bool) → AllWide is x → (under is x t ≡ true) ↔ (AllWithin is x × (t ≡ true))
under_is [] x t w = (λ e. (tt, e), λ h. h.1)
under_is (low f m ∷ is) x t w = below_and (the x f) m (under is x t) (AllWithin is x) (t ≡ true) (under_is is x t w.1)
under_is (num f v ∷ is) x t w =
    let i = under_is is x t w.1 in
    (λ e. ((w.0, (i.0 e).0), (i.0 e).1), λ h. i.1 (h.0.1, h.1))
under_is (cap f v m ∷ is) x t w = below_and (the x f) m (under is x t) (AllWithin is x) (t ≡ true) (under_is is x t w.1)
under_is (duo f g ∷ is) x t w =
    let i = below_and (the x g) 4096 (under is x t) (AllWithin is x) (t ≡ true) (under_is is x t w.1) in
    let j = below_and (the x f) 16 (ltb (the x g) 4096 && under is x t) ((the x g < 4096) × AllWithin is x) (t ≡ true) i in
    (λ e. let h = j.0 e in (((h.0.0, h.0.1.0), h.0.1.1), h.1), λ h. j.1 ((h.0.0.0, (h.0.0.1, h.0.1)), h.1))
under_is (skip v ∷ is) x t w =
    let i = under_is is x t w.1 in
    (λ e. ((tt, (i.0 e).0), (i.0 e).1), λ h. i.1 (h.0.1, h.1))

suits_is : (t : Tail) (h : ℕ) (x : List Value) (n : ℕ) → (suits t h x n ≡ true) ↔ Length t h x n
suits_is none h x n = equal_is n h
suits_is (by f) h x n = equal_is n (h + the x f)
suits_is (twice f) h x n = equal_is n (h + 2 * the x f)
suits_is (between lo hi) h x n = (
  λ e. let g = (and_is (leb (h + lo) n) (leb n (h + hi))).0 e in ((at_most_is (h + lo) n).0 g.0, (at_most_is n (h + hi)).0 g.1),
  λ g. (and_is (leb (h + lo) n) (leb n (h + hi))).1 ((at_most_is (h + lo) n).1 g.0, (at_most_is n (h + hi)).1 g.1),
)
suits_is (group f) h x n = (
  λ e. ⊎_elim (λ g. inl ((equal_is n h).0 g)) (λ g. inr ((equal_is (the x f) 0).0 g)) ((or_is (eqb n h) (eqb (the x f) 0)).0 e),
  λ g. (or_is (eqb n h) (eqb (the x f) 0)).1 (⊎_elim (λ e. inl ((equal_is n h).1 e)) (λ e. inr ((equal_is (the x f) 0).1 e)) g),
)

-- THE TEST AND THE PROPOSITION, of any row
pub fits_is : (r : Row) (x : List Value) (n : ℕ) → AllWide r.items x → n ≤ 16 → (fits r x n ≡ true) ↔ Allows r x n
fits_is r x n w m =
    let u = under_is r.items x (suits r.tail (head_of r) x n) w in
    let s = suits_is r.tail (head_of r) x n in (
      λ e. record { fields = (u.0 e).0; suited = s.0 (u.0 e).1; most = m },
      λ a. u.1 (a.fields, s.1 a.suited),
    )

-- what is allowed keeps the widths
pub wide : (is : List Item) (x : List Value) → AllWithin is x → AllWide is x
wide [] x a = tt
wide (low f m ∷ is) x a = (tt, wide is x a.1)
wide (num f v ∷ is) x a = (a.0, wide is x a.1)
wide (cap f v m ∷ is) x a = (tt, wide is x a.1)
wide (duo f g ∷ is) x a = (tt, wide is x a.1)
wide (skip v ∷ is) x a = (tt, wide is x a.1)
