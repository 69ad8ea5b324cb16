-- A sheet breaks no rule exactly if all its demands are met; it is accepted if it is of edition 2 then.
use Rattle.octets.proofs.Kit.{ℕ, ◌<◌, ◌≤◌, ◌≡◌, sym, ◌∙◌, List, T, eqb, cond, ℕ_discrete, arith, ne_eqb}
use Rattle.sheet.specs.{Demand.{breach, Met}, First.first, Kind.{kinds, users}, Layout.◌of◌, Entries.count, Rules.{frame_demands, zero_demands, entry_demands, body_demands, end_demands}}
use Rattle.sheet.specs.Rules.{entry_rule, body_rule, entries_rule, bodies_rule, rest_rule, walk_rule, rule_in, rule_of, verdict_of, edition, retired, old, Accepted}
use Rattle.sheet.specs.Head as head
use Rattle.sheet.proofs.rules.{ByKind.each_kind, Demands.{met, unbroken, named}, First.{or_else_left, or_else_right, first_each, first_all, first_more, first_suc}}

-- a sheet of an edition whose demands are all met, part by part
pub record GoodIn (ed : ℕ) (s : List ℕ) : Type 0 where
  pub framed : Met (frame_demands ed s)
  pub own : head.edition of s ≡ ed
  pub zeros : Met (zero_demands s)
  pub entries : (k i : ℕ) → k < kinds → i < count s k → Met (entry_demands s k i)
  pub bodies : (k i : ℕ) → k < kinds → i < count s k → Met (body_demands s k i)
  pub last : Met (end_demands s)

abbrev pub Good : List ℕ → Type 0
Good s = GoodIn edition s

-- every row of theirs names a rule
module _ (s : List ℕ) (i : ℕ) where
  entry_named : (k : ℕ) → k < kinds → T (named (entry_demands s k i))
  unfolding entry_demands
  entry_named = each_kind (λ (k : ℕ). T (named (entry_demands s k i))) tt tt tt tt

  body_named : (k : ℕ) → T (named (body_demands s k i))
  unfolding body_demands
  body_named k = tt

-- what every entry of every kind says
AllOf : (s : List ℕ) → (ℕ → ℕ → ℕ) → Type 0
AllOf s rule = (k i : ℕ) → k < kinds → i < count s k → rule k i ≡ 0

module _ (s : List ℕ) (rule : ℕ → ℕ → ℕ) where
  each : first (λ k. first (rule k) (count s k)) kinds ≡ 0 → AllOf s rule
  unfolding AllOf
  each e k i hk hi = first_each (rule k) (count s k) i (first_each (λ k. first (rule k) (count s k)) kinds k e hk) hi

  all : AllOf s rule → first (λ k. first (rule k) (count s k)) kinds ≡ 0
  unfolding AllOf
  all h = first_all (λ k. first (rule k) (count s k)) kinds (λ k hk. first_all (rule k) (count s k) (λ i hi. h k i hk hi))

-- S1 to S4 of one that breaks no rule
pub frame_met : (up : ℕ) (s : List ℕ) → rule_in up s ≡ 0 → Met (frame_demands up s)
unfolding rule_in
frame_met up s e = met (frame_demands up s) tt (or_else_left (breach (frame_demands up s)) _ e)

-- A SHEET THAT BREAKS NO RULE OF EDITIONS UP TO ONE MEETS ALL DEMANDS of its own
pub passing : (up ed : ℕ) (s : List ℕ) → rule_in up s ≡ 0 → head.edition of s ≡ ed → GoodIn ed s
unfolding rule_in walk_rule rest_rule entries_rule bodies_rule entry_rule body_rule AllOf
passing up ed s e own =
    let e₁ = or_else_right (breach (frame_demands up s)) _ e in
    let z = or_else_left (breach (zero_demands s)) _ e₁ in
    let e₂ = or_else_right (breach (zero_demands s)) _ e₁ in
    let e₄ = or_else_right (entries_rule s users) _ e₂ in
    let w = first_more (entries_rule s) users (or_else_left (first (entries_rule s) users) _ e₄) (or_else_left (entries_rule s users) _ e₂) in
    let e₃ = or_else_right (first (entries_rule s) users) _ e₄ in
    let b = or_else_left (first (bodies_rule s) kinds) _ e₃ in
    let l = or_else_right (first (bodies_rule s) kinds) _ e₃ in
    record {
      framed = let m = frame_met up s e in omega (arith, m, own);
      own = own;
      zeros = met (zero_demands s) tt z;
      entries = λ k i hk hi. met (entry_demands s k i) (entry_named s i k hk) (each s (entry_rule s) w k i hk hi);
      bodies = λ k i hk hi. met (body_demands s k i) (body_named s i k) (each s (body_rule s) b k i hk hi);
      last = met (end_demands s) tt l;
    }

-- A SHEET THAT MEETS ALL DEMANDS BREAKS NO RULE of editions up to that or a later one
pub passes : {ed : ℕ} {s : List ℕ} (up : ℕ) → ed ≤ up → GoodIn ed s → rule_in up s ≡ 0
unfolding rule_in walk_rule rest_rule entries_rule bodies_rule entry_rule body_rule AllOf
passes {ed} {s} up h g =
    rw (unbroken (frame_demands up s) (omega (arith, h, g.framed)), unbroken (zero_demands s) g.zeros, early, entries, bodies) (unbroken (end_demands s) g.last)
  where
    entries : first (entries_rule s) users ≡ 0
    entries = or_else_left (first (entries_rule s) users) _ (sym (first_suc (entries_rule s) users) ∙ all s (entry_rule s) (λ k i hk hi. unbroken (entry_demands s k i) (g.entries k i hk hi)))

    early : entries_rule s users ≡ 0
    early = first_all (entry_rule s users) (count s users) (λ i hi. unbroken (entry_demands s users i) (g.entries users i (omega arith) hi))

    bodies : first (bodies_rule s) kinds ≡ 0
    bodies = all s (body_rule s) (λ k i hk hi. unbroken (body_demands s k i) (g.bodies k i hk hi))

-- AN ACCEPTED SHEET BREAKS NO RULE AND IS OF EDITION 2
pub no_rule : (s : List ℕ) → Accepted s → rule_of s ≡ 0
unfolding verdict_of
no_rule s ok = or_else_left (rule_of s) _ ok

pub second : (s : List ℕ) → Accepted s → head.edition of s ≡ edition
unfolding verdict_of
second s ok = go (ℕ_discrete (head.edition of s) retired)
  where
    not_old : (n : ℕ) → n ≡ 1 → cond (eqb n 1) old 0 ≡ 0 → ⊥
    not_old n e h = let z : ◌≡◌ {A = ℕ} 14 0 = rw e at h in omega arith

    go : Dec (head.edition of s ≡ 1) → head.edition of s ≡ 2
    go (yes e) = absurd (not_old (head.edition of s) e (or_else_right (rule_of s) _ ok))
    go (no n) = let m = frame_met edition s (no_rule s ok) in omega (arith, m)

-- SO IT MEETS ALL DEMANDS, AND ONE OF EDITION 2 THAT MEETS THEM IS ACCEPTED
pub good : (s : List ℕ) → Accepted s → Good s
good s ok = passing edition edition s (no_rule s ok) (second s ok)

pub accepted : {s : List ℕ} → Good s → Accepted s
unfolding verdict_of
accepted {s} g = rw (passes edition (omega arith) g, ne_eqb (head.edition of s) 1 (λ e. omega (arith, g.own)))
