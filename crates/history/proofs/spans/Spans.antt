-- What a span has is what stands j bytes on from its first byte.
use Rattle.octets.proofs.Kit.{ℕ, zero, suc, ◌+◌, ◌-◌, ◌<◌, ◌≤◌, ◌≡◌, refl, sym, ap₂, ◌∙◌, Bool, true, false, cond, ◌||◌, List, [], ◌∷◌, ltb, leb, eqb, get_or, arith, ltb-true, lt-ltb}
use Rattle.octets.proofs.Kit.{leb-true, le-leb, eqb-true, eq-eqb}
use Rattle.octets.proofs.Truths.{never, and_is}
use Rattle.sheet.specs.declared.Memory.{Memory, TheVariants.{Device, User}}
use Rattle.history.specs.{Location.{Location, memory, body, counter, key}, Span.{owner, same, byte, Span, has, put, names, gives}}
use Rattle.history.proofs.spans.Bools.{all_at}

same_is : (s t : List ℕ) → same s t ≡ true → s ≡ t
same_is [] [] e = refl
same_is [] (y ∷ t) e = never e
same_is (x ∷ s) [] e = never e
same_is (x ∷ s) (y ∷ t) e =
    let b = (and_is (eqb x y) (same s t)).0 e in
    ap₂ (λ (n : ℕ) (l : List ℕ). n ∷ l) (eqb-true x y b.0) (same_is s t b.1)

pub same_so : (s : List ℕ) → same s s ≡ true
same_so [] = refl
same_so (x ∷ s) = (and_is (eqb x x) (same s s)).1 (eq-eqb x x refl, same_so s)

-- a location by its owner's numbers and its byte
abbrev memory_of : ℕ → Memory
memory_of zero = Device
memory_of (suc k) = User

abbrev spelled : ℕ → ℕ → ℕ → ℕ → Location
spelled zero a b j = memory (memory_of a) j
spelled (suc zero) a b j = body a b j
spelled (suc (suc zero)) a b j = counter a b j
spelled (suc (suc (suc n))) a b j = key a j

abbrev located : List ℕ → ℕ → Location
located o j = spelled (get_or o 0 0) (get_or o 1 0) (get_or o 2 0) j

-- j bytes on from x
abbrev pub on : Location → ℕ → Location
on (memory m y) j = memory m (y + j)
on (body o i n) j = body o i (n + j)
on (counter o i n) j = counter o i (n + j)
on (key l n) j = key l (n + j)

located_is : (x : Location) → located (owner x) (byte x) ≡ x
located_is (memory Device y) = refl
located_is (memory User y) = refl
located_is (body o i j) = refl
located_is (counter o i j) = refl
located_is (key l j) = refl

located_on : (x : Location) (j : ℕ) → located (owner x) (byte x + j) ≡ on x j
located_on (memory Device y) j = refl
located_on (memory User y) j = refl
located_on (body o i n) j = refl
located_on (counter o i n) j = refl
located_on (key l n) j = refl

owner_on : (x : Location) (j : ℕ) → owner (on x j) ≡ owner x
owner_on (memory m y) j = refl
owner_on (body o i n) j = refl
owner_on (counter o i n) j = refl
owner_on (key l n) j = refl

byte_on : (x : Location) (j : ℕ) → byte (on x j) ≡ byte x + j
byte_on (memory m y) j = refl
byte_on (body o i n) j = refl
byte_on (counter o i n) j = refl
byte_on (key l n) j = refl

module _ (p : Span) where
  Tests : Location → List Bool
  Tests x =
      same (owner p.from) (owner x) ∷ leb (byte p.from) (byte x) ∷ ltb (byte x) (byte p.from + p.long) ∷ []

  -- WHAT IT HAS
  pub has_only :
      (x : Location) → has p x ≡ true →
      (x ≡ on p.from (byte x - byte p.from)) × (byte x - byte p.from < p.long)
  unfolding has Tests
  has_only x e =
      let o : owner p.from ≡ owner x = same_is _ _ (all_at (Tests x) e 0) in
      let l : byte p.from ≤ byte x = leb-true _ _ (all_at (Tests x) e 1) in
      let m : byte x < byte p.from + p.long = ltb-true _ _ (all_at (Tests x) e 2) in
      let j : byte x ≡ byte p.from + (byte x - byte p.from) = omega arith in (
        sym (located_is x) ∙ ap₂ located (sym o) j ∙ located_on p.from _,
        omega arith,
      )

  pub has_on : (j : ℕ) → j < p.long → has p (on p.from j) ≡ true
  unfolding has
  has_on j h =
      rw (owner_on p.from j, byte_on p.from j)
      (simp (same_so (owner p.from), le-leb (byte p.from) (byte p.from + j) (omega arith), lt-ltb (byte p.from + j) (byte p.from + p.long) (omega arith)))

-- what several spans make of the contents c
abbrev pub laid : List Span → (Location → ℕ) → Location → ℕ
laid [] c x = c x
laid (p ∷ ps) c x = cond (has p x) (put p x) (laid ps c x)

pub laid_is : (ps : List Span) (c : Location → ℕ) (x : Location) → laid ps c x ≡ cond (names ps x) (gives ps x) (c x)
unfolding names gives
laid_is [] c x = refl
laid_is (p ∷ ps) c x = go (has p x) (laid_is ps c x)
  where
    go : (t : Bool) → laid ps c x ≡ cond (names ps x) (gives ps x) (c x) →
        cond t (put p x) (laid ps c x) ≡ cond (t || names ps x) (cond t (put p x) (gives ps x)) (c x)
    go true e = refl
    go false e = e
