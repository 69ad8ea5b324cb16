-- The rows judge a sheet as the nine propositions do.
use Rattle.octets.proofs.Kit.{ℕ, ◌<◌, ◌≡◌, List, [], ◌∷◌, T, take, drop, arith}
use Rattle.sheet.specs.{Demand.{Demand, breach, Met}, First.{first, or_else}, Entries.count}
use Rattle.sheet.specs.Rules.{rest_rule, frame_demands, zero_demands, entry_demands, body_demands, end_demands, entry_rule, body_rule, entries_rule, bodies_rule, walk_rule, rule_in}
use Rattle.sheet.specs.Plain.{S1, S2, S3, S4, S5, S6, S7, S8, S9, Judged, breaks1, breaks2, breaks3, breaks4, breaks5, breaks6, breaks7, breaks8, breaks9, none}
use Rattle.sheet.proofs.rules.First.{or_else_some, or_else_assoc, or_else_zero}
use Rattle.sheet.proofs.rules.Telling.{Says, holds, fails, says_yes, says_no, says_map, says_and, says_all, ruled, says_rows, breach_append}
use Rattle.sheet.proofs.rules.PlainRows.{Entries, Bodies, to6, from6, to7, from7, to8, from8, to9, from9}

-- the first of a few numbers that is not 0
abbrev first_of : List ℕ → ℕ
first_of [] = 0
first_of (a ∷ r) = or_else a (first_of r)

by_says : (J : ℕ → Type 0) (n : ℕ) {P : Type 0} {r t : ℕ} → 0 < n → Says n P r → ((P → ⊥) → J n) → (P → J t) → J (or_else r t)
by_says J n h (holds p e) f g = rw e (g p)
by_says J n {r = r} {t = t} h (fails p e) f g = rw (or_else_some r t (λ z. omega arith), e) (f p)

module _ (ed : ℕ) (s : List ℕ) where
  -- n rows of S1 to S4, from row a on
  rows : ℕ → ℕ → List Demand
  rows a n = take n (drop a (frame_demands ed s))

  -- what says of each of the nine whether it holds
  says1 : Says 1 (S1 s) (breach (rows 0 2))
  unfolding rows
  says1 = says_map (λ m. omega arith) (λ m. omega arith) (says_rows 1 (omega arith) (rows 0 2) tt)

  says2 : Says 2 (S2 ed s) (breach (rows 2 2))
  unfolding rows
  says2 = says_map (λ m. omega arith) (λ m. omega arith) (says_rows 2 (omega arith) (rows 2 2) tt)

  says3 : Says 3 (S3 s) (breach (rows 4 4))
  unfolding rows
  says3 = says_map (λ m. omega arith) (λ m. omega arith) (says_rows 3 (omega arith) (rows 4 4) tt)

  says4 : Says 4 (S4 s) (breach (rows 8 2))
  unfolding rows
  says4 = says_map (λ m. omega arith) (λ m. omega arith) (says_rows 4 (omega arith) (rows 8 2) tt)

  says5 : Says 5 (S5 s) (breach (zero_demands s))
  says5 = says_map (λ m. omega arith) (λ m. omega arith) (says_rows 5 (omega arith) (zero_demands s) tt)

  -- of the entries of a kind, whose rows are all of one rule
  says_entries : (n : ℕ) (h : 0 < n) (k : ℕ) → ((i : ℕ) → T (ruled n h (entry_demands s k i))) → Says n (Entries s k) (entries_rule s k)
  unfolding entries_rule entry_rule
  says_entries n h k t = says_all n h (λ i. Met (entry_demands s k i)) (entry_rule s k) (count s k) (λ i l. says_rows n h (entry_demands s k i) (t i))

  sixth : ℕ
  sixth = or_else (entries_rule s 3) (entries_rule s 0)

  says6 : Says 6 (S6 s) sixth
  unfolding sixth entry_demands
  says6 = says_map (to6 s) (from6 s) (says_and 6 (omega arith) (says_entries 6 (omega arith) 3 (λ i. tt)) (says_entries 6 (omega arith) 0 (λ i. tt)))

  says7 : Says 7 (S7 s) (entries_rule s 1)
  unfolding entry_demands
  says7 = says_map (to7 s) (from7 s) (says_entries 7 (omega arith) 1 (λ i. tt))

  says8 : Says 8 (S8 s) (entries_rule s 2)
  unfolding entry_demands
  says8 = says_map (to8 s) (from8 s) (says_entries 8 (omega arith) 2 (λ i. tt))

  says_bodies : (k : ℕ) → Says 9 (Bodies s k) (bodies_rule s k)
  unfolding bodies_rule body_rule body_demands
  says_bodies k =
      says_all 9 (omega arith) (λ i. Met (body_demands s k i)) (body_rule s k) (count s k)
      (λ i h. says_rows 9 (omega arith) (body_demands s k i) tt)

  ninth : ℕ
  ninth = or_else (or_else (or_else (or_else (bodies_rule s 0) (bodies_rule s 1)) (bodies_rule s 2)) (bodies_rule s 3)) (breach (end_demands s))

  says9 : Says 9 (S9 s) ninth
  unfolding ninth
  says9 =
      says_map (to9 s) (from9 s)
      (says_and 9 (omega arith) (says_and 9 (omega arith) (says_and 9 (omega arith) (says_and 9 (omega arith) (says_bodies 0) (says_bodies 1)) (says_bodies 2)) (says_bodies 3))
      (says_rows 9 (omega arith) (end_demands s) tt))

  -- the first of the nine that is told
  abbrev told : ℕ
  told =
      first_of (breach (rows 0 2) ∷ breach (rows 2 2) ∷ breach (rows 4 4) ∷ breach (rows 8 2) ∷ breach (zero_demands s) ∷ sixth ∷ entries_rule s 1 ∷ entries_rule s 2 ∷ ninth ∷ [])

  nine : rule_in ed s ≡ told
  unfolding rule_in walk_rule rest_rule rows first sixth ninth
  nine =
      rw (breach_append (rows 0 2) (drop 2 (frame_demands ed s)) tt, breach_append (rows 2 2) (drop 4 (frame_demands ed s)) tt, breach_append (rows 4 4) (rows 8 2) tt)
      (simp (or_else_assoc, or_else_zero))

  -- THE FIRST RULE BROKEN JUDGES THE SHEET
  pub judged : Judged ed s (rule_in ed s)
  judged =
      rw nine
      (by_says J 1 (omega arith) says1 breaks1 λ a.
      by_says J 2 (omega arith) says2 (breaks2 a) λ b.
      by_says J 3 (omega arith) says3 (breaks3 a b) λ c.
      by_says J 4 (omega arith) says4 (breaks4 a b c) λ d.
      by_says J 5 (omega arith) says5 (breaks5 a b c d) λ e.
      by_says J 6 (omega arith) says6 (breaks6 a b c d e) λ f.
      by_says J 7 (omega arith) says7 (breaks7 a b c d e f) λ g.
      by_says J 8 (omega arith) says8 (breaks8 a b c d e f g) λ h.
      by_says J 9 (omega arith) says9 (breaks9 a b c d e f g h) λ i.
      none a b c d e f g h i)
    where
      J : ℕ → Type 0
      J = Judged ed s

  -- AND NO OTHER NUMBER DOES
  pub judged_only : {n : ℕ} → Judged ed s n → n ≡ rule_in ed s
  judged_only {n} j = rw nine (only j)
    where
      only : {n : ℕ} → Judged ed s n → n ≡ told
      only (breaks1 n) = rw (says_no says1 n)
      only (breaks2 a n) = rw (says_yes says1 a, says_no says2 n)
      only (breaks3 a b n) = rw (says_yes says1 a, says_yes says2 b, says_no says3 n)
      only (breaks4 a b c n) = rw (says_yes says1 a, says_yes says2 b, says_yes says3 c, says_no says4 n)
      only (breaks5 a b c d n) = rw (says_yes says1 a, says_yes says2 b, says_yes says3 c, says_yes says4 d, says_no says5 n)
      only (breaks6 a b c d e n) = rw (says_yes says1 a, says_yes says2 b, says_yes says3 c, says_yes says4 d, says_yes says5 e, says_no says6 n)
      only (breaks7 a b c d e f n) = rw (says_yes says1 a, says_yes says2 b, says_yes says3 c, says_yes says4 d, says_yes says5 e, says_yes says6 f, says_no says7 n)
      only (breaks8 a b c d e f g n) = rw (says_yes says1 a, says_yes says2 b, says_yes says3 c, says_yes says4 d, says_yes says5 e, says_yes says6 f, says_yes says7 g, says_no says8 n)
      only (breaks9 a b c d e f g h n) =
          rw (says_yes says1 a, says_yes says2 b, says_yes says3 c, says_yes says4 d, says_yes says5 e) (rw (says_yes says6 f, says_yes says7 g, says_yes says8 h, says_no says9 n))
      only (none a b c d e f g h i) =
          rw (says_yes says1 a, says_yes says2 b, says_yes says3 c, says_yes says4 d, says_yes says5 e) (rw (says_yes says6 f, says_yes says7 g, says_yes says8 h, says_yes says9 i))
