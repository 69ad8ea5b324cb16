-- A table of demands, its first broken row, and that all rows hold.
use Rattle.octets.proofs.Kit.{ℕ, ◌≤◌, List, [], ◌∷◌, Bool, true, false, cond, ◌≡◌, refl, leb, T, arith, le-leb, leb-true, leb-false, eq-eqb, eqb-true, eqb-false}
use Rattle.sheet.specs.Demand.{Demand, Order, ◌≼◌, ◌≐◌, test, Holds, Fails, breach, Met, Tells}

-- a test tells whether the order holds
pub passed : (o : Order) → test o ≡ true → Holds o
passed (a ≼ b) e = leb-true a b e
passed (a ≐ b) e = eqb-true a b e

pub failed : (o : Order) → test o ≡ false → Fails o
failed (a ≼ b) e = leb-false a b e
failed (a ≐ b) e = eqb-false a b e

pub passes : (o : Order) → Holds o → test o ≡ true
passes (a ≼ b) h = le-leb a b h
passes (a ≐ b) h = eq-eqb a b h

pub contrary : (o : Order) → Holds o → Fails o → ⊥
contrary (a ≼ b) h f = omega arith
contrary (a ≐ b) h f = f h

pub told : (r : ℕ) (ds : List Demand) → Tells r ds → r ≡ breach ds
unfolding breach
told r [] t = t
told r (d ∷ ds) t =
    split (test d.order) refl (λ e. told r ds (t.1 (passed d.order e))) (λ e. t.0 (failed d.order e))
  where
    split : (b : Bool) → test d.order ≡ b → (test d.order ≡ true → r ≡ breach ds) → (test d.order ≡ false → r ≡ d.rule)
        → r ≡ cond b (breach ds) d.rule
    split true e f g = f e
    split false e f g = g e

-- every row names a rule, which is not 0
abbrev pub both : Bool → Bool → Bool
both true b = b
both false b = false

abbrev pub named : List Demand → Bool
named [] = true
named (d ∷ ds) = both (leb 1 d.rule) (named ds)

pub met : (ds : List Demand) → T (named ds) → breach ds ≡ 0 → Met ds
unfolding breach
met [] n e = tt
met (d ∷ ds) n e = split (test d.order) refl (leb 1 d.rule) refl n e (met ds)
  where
    split : (b : Bool) → test d.order ≡ b → (a : Bool) → leb 1 d.rule ≡ a → T (both a (named ds))
        → cond b (breach ds) d.rule ≡ 0 → (T (named ds) → breach ds ≡ 0 → Met ds) → Holds d.order × Met ds
    split true p true q n e f = (passed d.order p, f n e)
    split true p false q n e f = absurd n
    split false p true q n e f = let h : 1 ≤ d.rule = leb-true _ _ q in absurd (omega arith)
    split false p false q n e f = absurd n

pub unbroken : (ds : List Demand) → Met ds → breach ds ≡ 0
unfolding breach
unbroken [] h = refl
unbroken (d ∷ ds) h = rw (passes d.order h.0) (unbroken ds h.1)

-- rows that all name one rule break that one or none
abbrev pub OneRule : ℕ → List Demand → Type 0
OneRule n [] = Unit
OneRule n (d ∷ ds) = (d.rule ≡ n) × OneRule n ds

pub one_rule : (n : ℕ) (ds : List Demand) → OneRule n ds → (breach ds ≡ 0 → ⊥) → breach ds ≡ n
unfolding breach
one_rule n [] o h = absurd (h refl)
one_rule n (d ∷ ds) o h = split (test d.order) (one_rule n ds o.1) h
  where
    split : (b : Bool) → ((breach ds ≡ 0 → ⊥) → breach ds ≡ n) → (cond b (breach ds) d.rule ≡ 0 → ⊥) → cond b (breach ds) d.rule ≡ n
    split true f h = f h
    split false f h = o.0
