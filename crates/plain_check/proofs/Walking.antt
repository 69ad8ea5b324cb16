-- The walk over the entries and their bodies: what was found of those passed, and where the last body ended.
use Rattle.octets.proofs.Kit.{ℕ, zero, suc, ◌+◌, ◌≤◌, ◌<◌, ◌≡◌, refl, sym, ap, ap₂, ◌∙◌, subst, subst⁻¹, Bool, true, false, List, [], ◌∷◌, eqb, eqb-true, eqb-false, get_or, length, dec_lt, add-one, arith}
use Rattle.octets.proofs.Truths.{never}
use Rattle.sheet.specs.{Demand.Met, Entries.{count, place, entry, body_end, start_of, reached}, Rules.{entry_demands, body_demands}, Plain.{S6, S7, S8, S9}}
use Rattle.sheet.proofs.rules.{PlainRows.{to6, from6, to7, from7, to8, from8, to9, from9}, ByKind.each_kind}
use Rattle.plain_check.specs.{declared.Kind.TheVariants.{Regions, Properties, Groups, Users}, Kind.number_of}
use Rattle.plain_check.specs.{Says.Says, Tests.{Counted, Placed, Starts, Long, BodyAt}}
use Rattle.plain_check.proofs.{Saying.{says_map}, ByBytes.body_kept}

-- entry i of kind k and its body; those of the kinds before k; and those of kind k before i
abbrev pub Here : List ℕ → ℕ → ℕ → Type 0
Here s k i = Met (entry_demands s k i) × Met (body_demands s k i)

abbrev pub Before : List ℕ → ℕ → Type 0
Before s k = (j i : ℕ) → j < k → i < count s j → Here s j i

abbrev pub Among : List ℕ → ℕ → ℕ → Type 0
Among s k i = (j : ℕ) → j < i → Here s k j

-- THE INVARIANTS: all entries passed, and their bodies, are good, and `end` is where the last of these bodies ends
pub record Walked (s : List ℕ) (k : ℕ) (end : ℕ) : Type 0 where
  pub within : k ≤ 4
  pub good : Before s k
  pub ends : end ≡ start_of s k

pub record Passed (s : List ℕ) (k n i : ℕ) (end : ℕ) : Type 0 where
  pub kind : k < 4
  pub within : i ≤ n
  pub whole : Counted s k n
  pub good : Before s k × Among s k i
  pub ends : end ≡ reached s k i

-- the kinds in their order
pub kind_number : (j : ℕ) → j < 4 → number_of (get_or (Regions ∷ Properties ∷ Groups ∷ Users ∷ []) j Regions) ≡ j
kind_number zero h = refl
kind_number (suc zero) h = refl
kind_number (suc (suc zero)) h = refl
kind_number (suc (suc (suc zero))) h = refl
kind_number (suc (suc (suc (suc j)))) h = absurd (omega arith)

module _ (s : List ℕ) where
  pub walk_begins : (n e : ℕ) → Counted s 3 n → Placed s 3 n e → Walked s 0 e
  unfolding start_of
  walk_begins n e c p = record { within = omega arith; good = λ j i h l. absurd (omega arith); ends = p.is ∙ ap (place s 3) c.is }

  module _ (k n : ℕ) where
    pub pass_begins : (j end : ℕ) → k ≡ j → Walked s j end → j < 4 → Counted s k n → Passed s k n 0 end
    unfolding reached
    pass_begins j end e w h c =
        let v = rw (← e) at w in
        record { kind = omega arith; within = omega arith; whole = c; good = (v.good, λ x l. absurd (omega arith)); ends = v.ends }

    module _ (i : ℕ) (end : ℕ) (w : Passed s k n i end) where
      pub pass_goes : (at x y : ℕ) (a b : Bool) → i < n → Placed s k i at → Says (Met (entry_demands s k i)) a → a ≡ true → Says (BodyAt s k at end) b → b ≡ true
          → Starts s k at x → Long s k at y → Passed s k n (i + 1) (x + y)
      unfolding reached body_end entry
      pass_goes at x y a b h p ea ta eb tb st lo =
          record {
            kind = w.kind;
            within = omega arith;
            whole = w.whole;
            good = (w.good.0, λ j l. last j (dec_lt j i) l);
            ends = rw (add-one i, ← p.is) (ap₂ ◌+◌ st.is lo.is);
          }
        where
          here : Here s k i
          here = (ea.yes ta, (body_kept s k i at end b p.is w.ends eb).yes tb)

          last : (j : ℕ) → Dec (j < i) → j < i + 1 → Here s k j
          last j (yes l) h = w.good.1 j l
          last j (no l) h = let e : j ≡ i = omega arith in rw e here

      pub walk_goes : (j : ℕ) → k ≡ j → n ≤ i → Walked s (j + 1) end
      unfolding start_of reached
      walk_goes j q full =
          let e : i ≡ n = omega (arith, w.within) in
          let c : i ≡ count s k = e ∙ w.whole.is in
          subst (λ (x : ℕ). Walked s (x + 1) end) q
          record {
            within = omega (arith, w.kind);
            good = λ x l. rest x l (dec_lt x k);
            ends = rw (add-one k, ← c) w.ends;
          }
        where
          rest : (x l : ℕ) → Dec (x < k) → x < k + 1 → l < count s x → Here s x l
          rest x l (yes b) h r = w.good.0 x l b r
          rest x l (no b) h r = let e : x ≡ k = omega arith in subst⁻¹ (λ (z : ℕ). Here s z l) e (w.good.1 l (omega (arith, w.within, w.whole.is, rw e at r)))

  -- S6 TO S9 are that every entry and its body is good, and that the last body ends with the sheet
  to_rules : Before s 4 × (start_of s 4 ≡ length s) → S6 s × S7 s × S8 s × S9 s
  to_rules m = (
    to6 s (entries 3 (omega arith), entries 0 (omega arith)),
    to7 s (entries 1 (omega arith)),
    to8 s (entries 2 (omega arith)),
    to9 s ((((bodies 0 (omega arith), bodies 1 (omega arith)), bodies 2 (omega arith)), bodies 3 (omega arith)), (m.1, tt)),
  )
    where
      entries : (k : ℕ) → k < 4 → (i : ℕ) → i < count s k → Met (entry_demands s k i)
      entries k h i l = (m.0 k i h l).0

      bodies : (k : ℕ) → k < 4 → (i : ℕ) → i < count s k → Met (body_demands s k i)
      bodies k h i l = (m.0 k i h l).1

  from_rules : S6 s × S7 s × S8 s × S9 s → Before s 4 × (start_of s 4 ≡ length s)
  from_rules m = ((λ j i h l. (entries j h i l, bodies j h i l)), (from9 s m.3).1.0)
    where
      entries : (k : ℕ) → k < 4 → (i : ℕ) → i < count s k → Met (entry_demands s k i)
      entries =
          each_kind (λ (k : ℕ). (i : ℕ) → i < count s k → Met (entry_demands s k i)) (from6 s m.0).1 (from7 s m.1) (from8 s m.2) (from6 s m.0).0

      bodies : (k : ℕ) → k < 4 → (i : ℕ) → i < count s k → Met (body_demands s k i)
      bodies =
          let b = (from9 s m.3).0 in
          each_kind (λ (k : ℕ). (i : ℕ) → i < count s k → Met (body_demands s k i)) b.0.0.0 b.0.0.1 b.0.1 b.1

  -- AS THE RETURNS ASK
  pub walk_ends : (k end : ℕ) → Walked s k end → 4 ≤ k → Says (S6 s × S7 s × S8 s × S9 s) (eqb end (length s))
  walk_ends k end w h =
      let e : k ≡ 4 = omega (arith, w.within) in
      let v = rw e at w in
      says_map to_rules from_rules
      record {
        yes = λ e. (v.good, sym v.ends ∙ eqb-true end (length s) e);
        no = λ e m. eqb-false end (length s) e (v.ends ∙ m.1);
      }

  module _ (k n i end : ℕ) (w : Passed s k n i end) (h : i < n) where
    found : S6 s × S7 s × S8 s × S9 s → Here s k i
    found m = (from_rules m).0 k i w.kind (omega (arith, w.whole.is))

    pub entry_fails : (a : Bool) → Says (Met (entry_demands s k i)) a → a ≡ false → Says (S6 s × S7 s × S8 s × S9 s) false
    entry_fails a ea t = record { yes = λ e. never e; no = λ e m. ea.no t (found m).0 }

    pub body_fails : (at : ℕ) (b : Bool) → Placed s k i at → Says (BodyAt s k at end) b → b ≡ false → Says (S6 s × S7 s × S8 s × S9 s) false
    body_fails at b p eb t = record { yes = λ e. never e; no = λ e m. (body_kept s k i at end b p.is w.ends eb).no t (found m).1 }
