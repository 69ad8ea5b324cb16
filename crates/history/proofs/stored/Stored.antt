-- A STORE TO LOCATIONS: a run of bytes, each of them the place of a location that a span has.
use Rattle.octets.proofs.Kit.{ℕ, ◌+◌, ◌-◌, ◌<◌, ◌≤◌, ◌≡◌, refl, sym, ap, subst, ◌∙◌, ◌⊎◌, inl, inr, Bool, true, false, cond, List, length, get_or, dec_lt, arith}
use Rattle.octets.{specs.Splice.splice, proofs.{Splices.{splice_in, splice_outside}, Truths.never}}
use Rattle.sheet.proofs.rules.Good.{Good}
use Rattle.history.specs.{Location.{Location, Place}, Span.{byte, Span, has, put}}
use Rattle.history.proofs.{places.Standing.{location_once, place_once}, spans.Spans.{on, has_only, has_on}}

-- the bytes ds from o on are those of a span, in a sheet with the places of s
pub record Run (s : List ℕ) (p : Span) (o : ℕ) (ds : List ℕ) : Type 0 where
  pub size : length ds ≡ p.long
  pub places : (j : ℕ) → j < p.long → Place s (on p.from j) (o + j)
  pub bytes : (j : ℕ) → j < p.long → p.give j ≡ get_or ds j 0

-- what is not in a run is before or after it
pub away : (o n p : ℕ) → (o ≤ p → p < o + n → ⊥) → (p < o) ⊎ (o + n ≤ p)
away o n p f = go (dec_lt p o) (dec_lt p (o + n))
  where
    go : Dec (p < o) → Dec (p < o + n) → (p < o) ⊎ (o + n ≤ p)
    go (yes h) d = inl h
    go (no h) (yes l) = absurd (f (omega arith) l)
    go (no h) (no l) = inr (omega arith)

-- places of the sheet f; the bytes of the sheet s
module _
    {f : List ℕ} (g : Good f) (s : List ℕ) (p : Span) (o : ℕ) (ds : List ℕ) (room : o + length ds ≤ length s)
    (run : Run f p o ds) where
  -- the location that stands in the run at q
  there : (q : ℕ) → o ≤ q → q < o + length ds → Place f (on p.from (q - o)) q
  there q l m =
      let e : o + (q - o) ≡ q = omega arith in
      subst (λ (n : ℕ). Place f (on p.from (q - o)) n) e (run.places (q - o) (omega (arith, run.size)))

  -- EVERY LOCATION HOLDS WHAT THE SPAN GIVES, IF IT HAS IT, AND ELSE WHAT IT HELD
  pub stored : (x : Location) (q : ℕ) → Place f x q → get_or (splice s o ds) q 0 ≡ cond (has p x) (put p x) (get_or s q 0)
  unfolding put
  stored x q h = go (has p x) refl
    where
      go : (t : Bool) → has p x ≡ t → get_or (splice s o ds) q 0 ≡ cond t (p.give (byte x - byte p.from)) (get_or s q 0)
      go true e =
          let b = has_only p x e in
          let k : q ≡ o + (byte x - byte p.from) =
          place_once g h (subst (λ (y : Location). Place f y (o + (byte x - byte p.from))) (sym b.0) (run.places _ b.1)) in
          ap (λ (i : ℕ). get_or (splice s o ds) i 0) k
          ∙ splice_in s o ds room (byte x - byte p.from) (omega (arith, run.size, b.1))
          ∙ sym (run.bytes _ b.1)
      go false e =
          splice_outside s o ds room q
          (away o (length ds) q
          (λ l m.
          let k : on p.from (q - o) ≡ x = location_once g (there q l m) h in
          never (sym e ∙ sym (ap (has p) k) ∙ has_on p (q - o) (omega (arith, run.size)))))

  -- and what is no location's stays
  pub spared : (q : ℕ) → ((x : Location) → Place f x q → ⊥) → get_or (splice s o ds) q 0 ≡ get_or s q 0
  spared q no_place_lem = splice_outside s o ds room q (away o (length ds) q (λ l m. no_place_lem _ (there q l m)))
