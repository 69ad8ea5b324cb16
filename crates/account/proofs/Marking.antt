-- Marks made one by one; the mark of a run after another. Assumes nothing.
use Rattle.octets.proofs.Kit.{ℕ, zero, suc, ◌+◌, ◌<◌, ◌≤◌, ◌≡◌, refl, sym, ap, subst, ◌∙◌, ◌⊎◌, inl, inr, Bool, cond, List, [], ◌∷◌, ◌++◌, dec_lt, add-zero, arith, length, get_or, set}
use Rattle.octets.proofs.Kit.{length-set, get_or-set_same, get_or-set_other, ext_get_or, eq-eqb}
use Rattle.device.specs.{Events.State, declared.{Sessions.Sessions, Changed.Changed}, Sessions.session_of}
use Rattle.events.specs.Events.{Event, after, run_by, run}
use Rattle.account.specs.{Account.{byte_at, level_on}, Marks.{mark_of, mark_after, both, MarkedRun, Caught, Levelled, Markable, Marked}}

-- what is as it was keeps its mark
pub kept : (b a m n : ℕ) → a ≡ b → mark_of b a m n ≡ m
kept b a m n e = ap (λ (u : Bool). cond u m n) (eq-eqb a b e)

-- A PASS: the bytes from `from` up to i are done
pub record Passed (a : List ℕ) (n from to i : ℕ) (b m b' m' : List ℕ) : Type 0 where
  pub begun : from ≤ i
  pub some : i ≤ to
  pub caught : Caught a n from i b m b' m'

module _ (a : List ℕ) (n from to : ℕ) (b m : List ℕ) where
  pub pass_none : from ≤ to → Passed a n from to from b m b m
  pass_none h =
      record {
        begun = omega arith;
        some = h;
        caught = record { same_bytes = refl; same_marks = refl; inside = λ p u v. absurd (omega (arith, u, v)); outside = λ p o. (refl, refl) };
      }

  pub pass_more :
      {i : ℕ} {b' m' : List ℕ} → Passed a n from to i b m b' m' → i < to → i < length b → i < length m →
      (v w : ℕ) → v ≡ mark_of (get_or b' i 0) (get_or a i 0) (get_or m' i 0) n → w ≡ get_or a i 0 →
      Passed a n from to (i + 1) b m (set b' i w) (set m' i v)
  pass_more {i} {b'} {m'} k h hb hm v w e d =
      record {
        begun = omega (arith, k.begun);
        some = omega (arith, h);
        caught =
            record {
              same_bytes = length-set b' i w ∙ k.caught.same_bytes;
              same_marks = length-set m' i v ∙ k.caught.same_marks;
              inside = λ p u l. go p u l (dec_lt p i);
              outside = λ p o. (get_or-set_other m' i p v 0 (apart p o) ∙ (k.caught.outside p (wider p o)).0, get_or-set_other b' i p w 0 (apart p o) ∙ (k.caught.outside p (wider p o)).1);
            };
      }
    where
      wider : (p : ℕ) → (p < from) ⊎ (i + 1 ≤ p) → (p < from) ⊎ (i ≤ p)
      wider p (inl u) = inl u
      wider p (inr u) = inr (omega (arith, u))

      apart : (p : ℕ) → (p < from) ⊎ (i + 1 ≤ p) → p ≡ i → ⊥
      apart p (inl u) q = omega (arith, u, q, k.begun)
      apart p (inr u) q = omega (arith, u, q)

      go : (p : ℕ) → from ≤ p → p < i + 1 → Dec (p < i) →
          (get_or (set m' i v) p 0 ≡ mark_of (get_or b p 0) (get_or a p 0) (get_or m p 0) n) × (get_or (set b' i w) p 0 ≡ get_or a p 0)
      go p u l (yes y) =
          let z = k.caught.inside p u y in
          (get_or-set_other m' i p v 0 (λ q. omega (arith, q, y)) ∙ z.0, get_or-set_other b' i p w 0 (λ q. omega (arith, q, y)) ∙ z.1)
      go p u l (no y) =
          let q : i ≡ p = omega (arith, l, y) in
          let o = k.caught.outside i (inr (omega arith)) in
          subst (λ (j : ℕ). (get_or (set m' i v) j 0 ≡ mark_of (get_or b j 0) (get_or a j 0) (get_or m j 0) n) × (get_or (set b' i w) j 0 ≡ get_or a j 0)) q (
            get_or-set_same m' i v 0 (omega (arith, hm, k.caught.same_marks)) ∙ e ∙ ap (λ (x : ℕ). mark_of x (get_or a i 0) (get_or m' i 0) n) o.1
                ∙ ap (λ (x : ℕ). mark_of (get_or b i 0) (get_or a i 0) x n) o.0,
            get_or-set_same b' i w 0 (omega (arith, hb, k.caught.same_bytes)) ∙ d,
          )

  pub pass_all : {i : ℕ} {b' m' : List ℕ} → Passed a n from to i b m b' m' → to ≤ i → Caught a n from to b m b' m'
  pass_all {i} {b'} {m'} k l = let e : i ≡ to = omega (arith, k.some) in subst (λ (j : ℕ). Caught a n from j b m b' m') e k.caught

-- ONE RUN AFTER THE OTHER
module _ (look : State → ℕ) where
  pub mark_append :
      (n : ℕ) (x : State) (es fs : List Event) (m : ℕ) →
      mark_after look n x (es ++ fs) m ≡ mark_after look (n + length es) (run x es) fs (mark_after look n x es m)
  unfolding mark_after run_by
  mark_append n x [] fs m = ap (λ (k : ℕ). mark_after look k x fs m) (sym (add-zero n))
  mark_append n x (e ∷ es) fs m =
      let k : n + 1 + length es ≡ n + suc (length es) = omega arith in
      mark_append (n + 1) (after x e) es fs (mark_of (look x) (look (after x e)) m (n + 1))
      ∙ ap (λ (j : ℕ). mark_after look j (run (after x e) es) fs (mark_after look (n + 1) (after x e) es (mark_of (look x) (look (after x e)) m (n + 1)))) k

module _ (x : State) (n k : ℕ) (m : List ℕ) where
  pub marked_none : MarkedRun x [] n k m m
  unfolding mark_after
  marked_none = record { same = refl; bytes = λ p l. refl; levels = λ c l. refl }

  pub marked_append :
      {m₁ m₂ : List ℕ} (es fs : List Event) → MarkedRun x es n k m m₁ → MarkedRun (run x es) fs (n + length es) k m₁ m₂ → MarkedRun x (es ++ fs) n k m m₂
  marked_append {m₁} {m₂} es fs a b =
      record {
        same = b.same ∙ a.same;
        bytes = λ p l. b.bytes p l ∙ ap (mark_after (byte_at p) (n + length es) (run x es) fs) (a.bytes p l) ∙ sym (mark_append (byte_at p) n x es fs (get_or m p 0));
        levels = λ c l. b.levels c l ∙ ap (mark_after (level_on c) (n + length es) (run x es) fs) (a.levels c l) ∙ sym (mark_append (level_on c) n x es fs (get_or m (k + c) 0));
      }

-- TWO PASSES OVER THE PARTS THAT AN EVENT NAMES, AND BOTH LEVELS
module _ (b a : List ℕ) (c : Changed) (m : List ℕ) (can : Markable b a c m) where
  pub first_needs :
      (length b ≡ length a) × (length a ≤ length m) × (c.first.offset + c.first.length ≤ length a)
  first_needs = (can.long, omega (arith, can.marks), can.first)

  module _ (n : ℕ) (b₁ m₁ : List ℕ) (f : Caught a n c.first.offset (c.first.offset + c.first.length) b m b₁ m₁) where
    pub second_needs :
        (length b₁ ≡ length a) × (length a ≤ length m₁) × (c.second.offset + c.second.length ≤ length a)
    second_needs = (f.same_bytes ∙ can.long, omega (arith, can.marks, f.same_marks), can.second)

    module _ (b₂ m₂ : List ℕ) (g : Caught a n c.second.offset (c.second.offset + c.second.length) b₁ m₁ b₂ m₂) where
      pub level_needs : length a + 2 ≤ length m₂
      level_needs = omega (arith, can.marks, f.same_marks, g.same_marks)

      where_is : (p i j : ℕ) → ((i ≤ p) × (p < j)) ⊎ ((p < i) ⊎ (j ≤ p))
      where_is p i j = at (dec_lt p i) (dec_lt p j)
        where
          at : Dec (p < i) → Dec (p < j) → ((i ≤ p) × (p < j)) ⊎ ((p < i) ⊎ (j ≤ p))
          at (yes u) v = inr (inl u)
          at (no u) (yes v) = inl (omega arith, v)
          at (no u) (no v) = inr (inr (omega arith))

      -- what is another is caught by one of the passes, and once
      caught :
          (p : ℕ) → (get_or m₂ p 0 ≡ mark_of (get_or b p 0) (get_or a p 0) (get_or m p 0) n) × (get_or b₂ p 0 ≡ get_or a p 0)
      caught p = go (where_is p c.first.offset (c.first.offset + c.first.length)) (where_is p c.second.offset (c.second.offset + c.second.length))
        where
          go : ((c.first.offset ≤ p) × (p < c.first.offset + c.first.length)) ⊎ ((p < c.first.offset) ⊎ (c.first.offset + c.first.length ≤ p)) →
              ((c.second.offset ≤ p) × (p < c.second.offset + c.second.length)) ⊎ ((p < c.second.offset) ⊎ (c.second.offset + c.second.length ≤ p)) →
              (get_or m₂ p 0 ≡ mark_of (get_or b p 0) (get_or a p 0) (get_or m p 0) n) × (get_or b₂ p 0 ≡ get_or a p 0)
          go (inl u) (inl v) =
              let r = f.inside p u.0 u.1 in
              let q = g.inside p v.0 v.1 in
              (q.0 ∙ kept (get_or b₁ p 0) (get_or a p 0) (get_or m₁ p 0) n (sym r.1) ∙ r.0, q.1)
          go (inl u) (inr v) =
              let r = f.inside p u.0 u.1 in
              let q = g.outside p v in
              (q.0 ∙ r.0, q.1 ∙ r.1)
          go (inr u) (inl v) =
              let r = f.outside p u in
              let q = g.inside p v.0 v.1 in
              (q.0 ∙ ap (λ (i : ℕ). mark_of i (get_or a p 0) (get_or m₁ p 0) n) r.1 ∙ ap (λ (i : ℕ). mark_of (get_or b p 0) (get_or a p 0) i n) r.0, q.1)
          go (inr u) (inr v) =
              let r = f.outside p u in
              let q = g.outside p v in
              let e = can.outside p record { first = u; second = v } in
              (q.0 ∙ r.0 ∙ sym (kept (get_or b p 0) (get_or a p 0) (get_or m p 0) n e), q.1 ∙ r.1 ∙ sym e)

      pub marked_all : (q r : Sessions) (m₃ : List ℕ) → Levelled q r n (length a) m₂ m₃ → Marked q r n a b m b₂ m₃
      marked_all q r m₃ l =
          record {
            same = l.same ∙ g.same_marks ∙ f.same_marks;
            bytes = λ p h. l.others p h ∙ (caught p).0;
            levels = level;
            seen = ext_get_or 0 b₂ a (g.same_bytes ∙ f.same_bytes ∙ can.long) (λ p h. (caught p).1);
          }
        where
          behind : (p : ℕ) → length a ≤ p → get_or m₂ p 0 ≡ get_or m p 0
          behind p h = (g.outside p (inr (omega (arith, h, can.second)))).0 ∙ (f.outside p (inr (omega (arith, h, can.first)))).0

          level : (k : ℕ) → k < both → get_or m₃ (length a + k) 0 ≡ mark_of (session_of q k).level (session_of r k).level (get_or m (length a + k) 0) n
          level zero h =
              subst (λ (i : ℕ). get_or m₃ i 0 ≡ mark_of (session_of q 0).level (session_of r 0).level (get_or m i 0) n) (sym (add-zero (length a)))
              (l.first ∙ ap (λ (i : ℕ). mark_of q.first.level r.first.level i n) (behind (length a) (omega arith)))
          level (suc zero) h = l.second ∙ ap (λ (i : ℕ). mark_of q.second.level r.second.level i n) (behind (length a + 1) (omega arith))
          level (suc (suc k)) h = absurd (omega (arith, h))

-- ONE EVENT
pub marked_one :
    (x y : State) (e : Event) → y ≡ after x e → (n : ℕ) (m b₂ m₂ : List ℕ) → length y.sheet ≡ length x.sheet →
    Marked x.sessions y.sessions (n + 1) y.sheet x.sheet m b₂ m₂ → MarkedRun x (e ∷ []) n (length x.sheet) m m₂
unfolding mark_after
marked_one x y e st n m b₂ m₂ u k =
    record {
      same = k.same;
      bytes = λ p h. k.bytes p (subst (λ (i : ℕ). p < i) (sym u) h) ∙ ap (λ (s : State). mark_of (byte_at p x) (byte_at p s) (get_or m p 0) (n + 1)) st;
      levels = λ c h.
          subst (λ (i : ℕ). get_or m₂ (i + c) 0 ≡ mark_of (level_on c x) (level_on c y) (get_or m (i + c) 0) (n + 1)) u (k.levels c h)
          ∙ ap (λ (s : State). mark_of (level_on c x) (level_on c s) (get_or m (length x.sheet + c) 0) (n + 1)) st;
    }
