-- WITHOUT THE KEY, ONE EVENT MORE: the level is above l or as it was, and what a connection whose level is above l may write.
use Rattle.octets.proofs.Kit.{ℕ, ◌<◌, ◌≤◌, ◌≡◌, refl, sym, ap, subst, ◌∙◌, ◌⊎◌, inl, inr, Bool, true, false, cond, ◌&&◌, ◌||◌, not, List, ◌∷◌, ltb, eqb, dec_lt, arith, eqb-true, lt-ltb}
use Rattle.octets.proofs.Kit.{le-ltb}
use Rattle.octets.proofs.Truths.{decided, and_is}
use Rattle.sheet.specs.Head.{rules_of}
use Rattle.events.specs.Events.{Event, connect, disconnect, button, request, restore}
use Rattle.history.specs.{Location.Location, Span.names, Wish.{Wish, change, offer_key, restart, other, nothing, asks, brings}, Permit.{checks, heard, level_for, spans}}
use Rattle.history.specs.{History.{First, is_restart, offered, opened, level, keys, content, permitted}, Keyless.{write_level, Unlocks, offers}}
use Rattle.history.proofs.{spans.Bools.all_at, steps.Restores.restore_needs, promises.Suffices.suffices}

module _ (l : ℕ) (low : l < 3) where
  -- an offer that is no key of a level up to l leaves a level above l
  unoffered :
      (now : ℕ → ℕ) (before n : ℕ) → ((k : ℕ) → k ≤ l → n ≡ now k → ⊥) → l < offered now true before (offer_key n)
  unoffered now before n none = go (eqb n (now 0)) (eqb n (now 1)) (eqb n (now 2)) (hit 0) (hit 1) (hit 2)
    where
      hit : (k : ℕ) → eqb n (now k) ≡ true → l < k
      hit k e = at (dec_lt l k)
        where
          at : Dec (l < k) → l < k
          at (yes h) = h
          at (no h) = absurd (none k (omega arith) (eqb-true n (now k) e))

      go : (a b c : Bool) → (a ≡ true → l < 0) → (b ≡ true → l < 1) → (c ≡ true → l < 2) → l < cond a 0 (cond b 1 (cond c 2 3))
      go true b c p q r = p refl
      go false true c p q r = q refl
      go false false true p q r = r refl
      go false false false p q r = low

  -- what a request that is heard (t) or not asks of the level and session of a connection, its own or another's
  asked :
      (now : ℕ → ℕ) (before : ℕ) (live t own : Bool) (w : Wish) →
      (t ≡ true → own ≡ true → (n : ℕ) → w ≡ offer_key n → (k : ℕ) → k ≤ l → n ≡ now k → ⊥) →
      (l < cond t (offered now own before w) before) ⊎ ((cond t (offered now own before w) before ≡ before) × (cond (t && is_restart w) false live ≡ true → live ≡ true))
  asked now before live false own w none = inr (refl, λ o. o)
  asked now before live true own (change c) none = inr (refl, λ o. o)
  asked now before live true true (offer_key n) none = inl (unoffered now before n (none refl refl n refl))
  asked now before live true false (offer_key n) none = inr (refl, λ o. o)
  asked now before live true own restart none = inl low
  asked now before live true own (other o) none = inr (refl, λ o. o)
  asked now before live true own nothing none = inr (refl, λ o. o)

  -- a request acts at a level above l, while the session has none below
  acts_above : (mode level : ℕ) (live : Bool) → (not (eqb mode 3) || live) ≡ true → (live ≡ true → l < level) → l < level_for mode level
  unfolding level_for
  acts_above mode level live e above = go (decided (eqb mode 3)) (dec_lt 3 level)
    where
      go : (eqb mode 3 ≡ true) ⊎ (eqb mode 3 ≡ false) → Dec (3 < level) → l < level_for mode level
      go (inr n) d = rw n low
      go (inl y) (yes h) = rw (y, lt-ltb 3 level h) low
      go (inl y) (no h) = rw (y, le-ltb 3 level (omega arith)) (above (rw y at e))

  module _ (f : First) (h : List Event) (c : ℕ) where
    -- ONE EVENT MORE: the level is above l, or as it was, and then the connection is open only if it was
    abbrev pub Moved : Event → Type 0
    Moved e = (l < level f (e ∷ h) c) ⊎ ((level f (e ∷ h) c ≡ level f h c) × (opened f (e ∷ h) c ≡ true → opened f h c ≡ true))

    -- a connect or disconnect, its own (t) or another's, by which it is open if `now` is so
    named :
        (t : Bool) (now : Bool → Bool) → now false ≡ opened f h c →
        (l < cond t 3 (level f h c)) ⊎ ((cond t 3 (level f h c) ≡ level f h c) × (now t ≡ true → opened f h c ≡ true))
    named true now s = inl low
    named false now s = inr (refl, λ o. sym s ∙ o)

    pub moved : (e : Event) → (Unlocks f h l c e → ⊥) → Moved e
    unfolding level opened keys
    moved (connect d) none = named (eqb c d) (λ t. cond (t && ltb c 2) true (opened f h c)) refl
    moved (disconnect d) none = named (eqb c d) (λ t. cond t false (opened f h c)) refl
    moved (button on) none = inr (refl, λ o. o)
    moved (restore d n st) none = inr (refl, λ o. o)
    moved (request mode d g a out) none =
        asked (keys f h) (level f h c) (opened f h c) (heard (rules_of f.sheet) (opened f h d) mode a out (asks a)) (eqb c d) (asks a)
        (λ e own n w k m q.
        let z : c ≡ d = eqb-true c d own in
        none
        (subst (λ (i : ℕ). Unlocks f h l c (request mode i g a out)) z
        (offers k (omega arith) (subst (λ (i : ℕ). heard (rules_of f.sheet) (opened f h i) mode a out (asks a) ≡ true) (sym z) e) (w ∙ ap offer_key q))))

    -- a write of it names no byte protected up to l
    pub unnamed :
        (opened f h c ≡ true → l < level f h c) → (mode g : ℕ) (a out : List ℕ) → permitted f h (request mode c g a out) ≡ true →
        (x : Location) → write_level f.sheet x ≤ l → names (spans f.sheet (content f h) (brings a) (asks a)) x ≡ true → ⊥
    unfolding permitted heard
    unnamed above mode g a out p x w n =
        let b = (and_is (heard (rules_of f.sheet) (opened f h c) mode a out (asks a)) _).0 p in
        let k = suffices f.sheet (level_for mode (level f h c)) (content f h) (brings a) (asks a) x b.1 n in
        let m = acts_above mode (level f h c) (opened f h c) (all_at (checks (rules_of f.sheet) (opened f h c) mode a out (asks a)) b.0 4) above in
        omega arith

    -- and no restore of it is permitted
    pub unrestored : (opened f h c ≡ true → l < level f h c) → (n : ℕ) (st : List ℕ) → permitted f h (restore c n st) ≡ true → ⊥
    unrestored above n st p = let q = restore_needs f h c n st p in omega (arith, above q.live, q.level)
