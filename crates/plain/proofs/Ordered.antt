-- The outcomes before a service, in their order, are those of the first engine.
use Rattle.octets.proofs.Kit.{min, dec_lt}
use Rattle.octets.proofs.Kit.{ℕ, ◌≤◌, ◌<◌, ◌≡◌, refl, sym, ap, subst, ◌∙◌, Bool, true, false, cond, not, List, arith, ltb, eqb, length, lt-ltb, le-ltb, ltb-false, eq-eqb, ne_eqb, eqb-true}
use Rattle.std.proofs.Common.{Option, Some, None, Result, Ok, Err}
use Rattle.std.specs.Prelude.{IsErrAnd}
use Rattle.plain_services.specs.{declared.Refusal.Refusal, Refusal.{number_of, told}}
use Rattle.plain_services.specs.declared.Refusal.TheVariants.{NotForUs, Room, Bad, Length, Mode, Unconnected, Service, OtherMode, Fields, Denied, Silent, Old}
use Rattle.octets.proofs.{Truths.never, Tests.{both, not_first_lem, not_second_lem}}
use Rattle.sheet.{specs.{Head.rules_of, Rules.{Accepted, refusal_of}}, proofs.promises.Verdicts.not_refused}
use Rattle.pdu.specs.declared.Service as pdu
use Rattle.pdu.specs.{Rules.code_of, Table.service_at, Read.read_pdu}
use Rattle.judge.specs.{declared.{Session.Session, Decision.Decision}, Decisions.refused, Session.{level_in, level_of}, Modes.{reach_of, reaches, takes}, declared.Reach.Reach}
use Rattle.judge.specs.{declared.Reach.TheVariants.{Multicast, Broadcast, PointToPoint, Connected, Never}, Judge.{is_shut, read_of, reached_of, found_of, judge_of}}
use Rattle.parts.specs.{declared.Parts.Parts, Records.Taken}
use Rattle.plain.specs.Order.{first_of, next_of}

-- e decides: refused by it, and where it is 0 decided by k
abbrev By : ℕ → Decision → Decision
By e k = cond (eqb e 0) k (refused e)

walk :
    (t u v w x y : Bool) (n : ℕ) (k : Decision) → eqb n 0 ≡ u → (e : ℕ) →
    e ≡ cond t 3 (cond (not u) n (cond v 5 (cond w 5 (cond x 6 (cond y 7 0))))) →
    cond t (refused 3) (cond (not u) (refused n) (cond v (refused 5) (cond w (refused 5) (cond x (refused 6) (cond y (refused 7) k))))) ≡ By e k
walk true u v w x y n k z e h = subst (λ (m : ℕ). refused 3 ≡ By m k) (sym h) refl
walk false false v w x y n k z e h = subst (λ (m : ℕ). refused n ≡ By m k) (sym h) (sym (simp z))
walk false true true w x y n k z e h = subst (λ (m : ℕ). refused 5 ≡ By m k) (sym h) refl
walk false true false true x y n k z e h = subst (λ (m : ℕ). refused 5 ≡ By m k) (sym h) refl
walk false true false false true y n k z e h = subst (λ (m : ℕ). refused 6 ≡ By m k) (sym h) refl
walk false true false false false true n k z e h = subst (λ (m : ℕ). refused 7 ≡ By m k) (sym h) refl
walk false true false false false false n k z e h = subst (λ (m : ℕ). k ≡ By m k) (sym h) refl

passed : (t u : Bool) (n m e : ℕ) → eqb n 0 ≡ u → e ≡ cond t 3 (cond (not u) n m) → e ≡ 0 → (t ≡ false) × (n ≡ 0)
passed true u n m e z h q = absurd (omega arith)
passed false true n m e z h q = (refl, eqb-true n 0 z)
passed false false n m e z h q = (refl, sym h ∙ q)

module _ (room : ℕ) (s : List ℕ) (q : Session) (mode : ℕ) (a : List ℕ) (e : ℕ)
    (f : e ≡ first_of room (refusal_of s) (length a) mode (is_shut q mode)) where
  by_first : (group : ℕ) → judge_of room s q mode group a ≡ By e (found_of s q mode group a (service_at (code_of a)))
  unfolding judge_of first_of
  by_first group =
      walk (ltb room 16) (eqb (refusal_of s) 0) (ltb (length a) 2) (ltb 16 (length a)) (ltb 3 mode) (is_shut q mode) (refusal_of s)
      (found_of s q mode group a (service_at (code_of a))) refl e f

  pub first_due : (group : ℕ) → (e ≡ 0 → ⊥) → judge_of room s q mode group a ≡ refused e
  first_due group n = by_first group ∙ simp (ne_eqb e 0 n)

  module _ (z : e ≡ 0) where
    none : (ltb room 16 ≡ false) × (refusal_of s ≡ 0)
    unfolding first_of
    none = passed (ltb room 16) (eqb (refusal_of s) 0) (refusal_of s) _ e refl f z

    pub roomy : 16 ≤ room
    roomy = ltb-false room 16 none.0

    pub accepted : Accepted s
    accepted = not_refused s (refusal_of s) refl none.1

    module _ (group : ℕ) (found : Option pdu.Service) (g : found ≡ service_at (code_of a)) (rules : ℕ) (rs : rules ≡ rules_of s) (m : ℕ) (h : m ≡ next_of found rules mode) where
      by_next : (x : Option pdu.Service) → m ≡ next_of x (rules_of s) mode → found_of s q mode group a x ≡ By m (read_of s (level_in q mode) group a (read_pdu a))
      unfolding reached_of
      by_next None i = subst (λ (y : ℕ). refused 8 ≡ By y (read_of s (level_in q mode) group a (read_pdu a))) (sym i) refl
      by_next (Some k) i = go (reaches (reach_of (rules_of s) k)) (takes (reach_of (rules_of s) k) mode) i
        where
          go :
              (b c : Bool) → m ≡ cond (not b) 8 (cond (not c) 9 0) →
              cond (not b) (refused 8) (cond (not c) (refused 9) (read_of s (level_in q mode) group a (read_pdu a))) ≡ By m (read_of s (level_in q mode) group a (read_pdu a))
          go false c i = subst (λ (y : ℕ). refused 8 ≡ By y (read_of s (level_in q mode) group a (read_pdu a))) (sym i) refl
          go true false i = subst (λ (y : ℕ). refused 9 ≡ By y (read_of s (level_in q mode) group a (read_pdu a))) (sym i) refl
          go true true i =
              subst (λ (y : ℕ). read_of s (level_in q mode) group a (read_pdu a) ≡ By y (read_of s (level_in q mode) group a (read_pdu a))) (sym i) refl

      all : judge_of room s q mode group a ≡ By m (read_of s (level_in q mode) group a (read_pdu a))
      all =
          let found-by : judge_of room s q mode group a ≡ found_of s q mode group a (service_at (code_of a)) = by_first group ∙ simp (eq-eqb e 0 z) in
          found-by
          ∙ by_next (service_at (code_of a)) (h ∙ ap (λ (y : Option pdu.Service). next_of y rules mode) g ∙ ap (λ (y : ℕ). next_of (service_at (code_of a)) y mode) rs)

      pub next_due : (m ≡ 0 → ⊥) → judge_of room s q mode group a ≡ refused m
      next_due n = all ∙ simp (ne_eqb m 0 n)

      pub reads_next : m ≡ 0 → judge_of room s q mode group a ≡ read_of s (level_in q mode) group a (read_pdu a)
      reads_next y = all ∙ simp (eq-eqb m 0 y)

pub found_as : (f : Option pdu.Service) (n : ℕ) (a : List ℕ) → f ≡ service_at n → n ≡ code_of a → f ≡ service_at (code_of a)
found_as f n a e h = e ∙ ap service_at h

pub rules_as : (s : List ℕ) (u : Parts) → Taken s u → u.head.rules ≡ rules_of s
unfolding rules_of
rules_as s u t = t.front.rules

-- a service is a request if some mode takes it
some_mode : (r : Reach) (m : ℕ) → takes r m ≡ true → reaches r ≡ true
some_mode Multicast m e = refl
some_mode Broadcast m e = refl
some_mode PointToPoint m e = refl
some_mode Connected m e = refl
some_mode Never m e = never e

no_mode : (r : Reach) → takes r 0 ≡ false → takes r 1 ≡ false → takes r 3 ≡ false → reaches r ≡ false
no_mode Multicast a b c = never (sym a)
no_mode Broadcast a b c = never (sym b)
no_mode PointToPoint a b c = never (sym c)
no_mode Connected a b c = never (sym c)
no_mode Never a b c = refl

-- as the code tests
module _ (room n l mode : ℕ) (shut : Bool) where
  pub due_3 : room < 16 → 3 ≡ first_of room n l mode shut
  unfolding first_of
  due_3 h = simp (lt-ltb room 16 h)

  module _ (h : 16 ≤ room) (x : ℕ) (ex : x ≡ n) where
    pub due_4 : (x ≡ 0 → ⊥) → x ≡ first_of room n l mode shut
    unfolding first_of
    due_4 z = simp (le-ltb room 16 h, ne_eqb n 0 (λ e. z (ex ∙ e))) ex

    module _ (z : x ≡ 0) where
      fine : eqb n 0 ≡ true
      fine = eq-eqb n 0 (sym ex ∙ z)

      pub due_5 : l < 2 → 5 ≡ first_of room n l mode shut
      unfolding first_of
      due_5 a = simp (le-ltb room 16 h, fine, lt-ltb l 2 a)

      module _ (a : 2 ≤ l) where
        pub due_5_long : ltb 16 l ≡ true → 5 ≡ first_of room n l mode shut
        unfolding first_of
        due_5_long b = simp (le-ltb room 16 h, fine, le-ltb l 2 a, b)

        module _ (b : ltb 16 l ≡ false) where
          pub due_6 : 3 < mode → 6 ≡ first_of room n l mode shut
          unfolding first_of
          due_6 c = simp (le-ltb room 16 h, fine, le-ltb l 2 a, b, lt-ltb 3 mode c)

          module _ (c : mode ≤ 3) where
            pub due_7 : shut ≡ true → 7 ≡ first_of room n l mode shut
            unfolding first_of
            due_7 d = simp (le-ltb room 16 h, fine, le-ltb l 2 a, b, le-ltb 3 mode c, d)

            pub due_none : shut ≡ false → 0 ≡ first_of room n l mode shut
            unfolding first_of
            due_none d = simp (le-ltb room 16 h, fine, le-ltb l 2 a, b, le-ltb 3 mode c, d)

-- mode 3, and the session is closed
module _ (q : Session) (mode : ℕ) where
  pub is_shut_lem : mode ≡ 3 → not q.opened ≡ true → is_shut q mode ≡ true
  unfolding is_shut
  is_shut_lem e h = both _ _ (eq-eqb mode 3 e) h

  pub is_open : not q.opened ≡ false → is_shut q mode ≡ false
  unfolding is_shut
  is_open h = not_second_lem (eqb mode 3) _ h

  pub no_session_lem : (mode ≡ 3 → ⊥) → is_shut q mode ≡ false
  unfolding is_shut
  no_session_lem e = not_first_lem _ _ (ne_eqb mode 3 e)

module _ (f : Option pdu.Service) (rules mode : ℕ) where
  pub next_unknown : f ≡ None → 8 ≡ next_of f rules mode
  next_unknown e = simp e

  module _ (k : pdu.Service) (e : f ≡ Some k) (t : Bool) (et : t ≡ takes (reach_of rules k) mode) where
    pub next_none : t ≡ true → 0 ≡ next_of f rules mode
    next_none y = simp (e, some_mode (reach_of rules k) mode (sym et ∙ y), sym et ∙ y)

    module _ (n : t ≡ false) where
      -- it is taken in mode m
      pub next_mode : (m : ℕ) (x : Bool) → x ≡ takes (reach_of rules k) m → x ≡ true → 9 ≡ next_of f rules mode
      next_mode m x ex y = simp (e, some_mode (reach_of rules k) m (sym ex ∙ y), sym et ∙ n)

      pub next_answer :
          (a b c : Bool) → a ≡ takes (reach_of rules k) 0 → a ≡ false → b ≡ takes (reach_of rules k) 1 → b ≡ false → c ≡ takes (reach_of rules k) 3 → c ≡ false →
          8 ≡ next_of f rules mode
      next_answer a b c ea na eb nb ec nc = simp (e, no_mode (reach_of rules k) (sym ea ∙ na) (sym eb ∙ nb) (sym ec ∙ nc))

-- no refusal has number 0
pub never_0 : (n : Refusal) → number_of n ≡ 0 → ⊥
never_0 NotForUs q = absurd (omega arith)
never_0 Room q = absurd (omega arith)
never_0 Bad q = absurd (omega arith)
never_0 Length q = absurd (omega arith)
never_0 Mode q = absurd (omega arith)
never_0 Unconnected q = absurd (omega arith)
never_0 Service q = absurd (omega arith)
never_0 OtherMode q = absurd (omega arith)
never_0 Fields q = absurd (omega arith)
never_0 Denied q = absurd (omega arith)
never_0 Silent q = absurd (omega arith)
never_0 Old q = absurd (omega arith)

-- a refusal of a sheet, handed on
pub told_as : (y : Result (Unit {0}) Refusal) (e : Refusal) → IsErrAnd y (λ r. r ≡ e) → (told y ≡ number_of e) × (told y ≡ 0 → ⊥)
told_as (Ok u) e h = absurd h
told_as (Err r) e h = rw h (refl, never_0 e)

-- the smaller of a level and 3
pub least_level : (q : Session) (mode : ℕ) → mode ≡ 3 → min q.level 3 ≡ level_in q mode
unfolding level_in level_of
least_level q mode e = go (dec_lt 3 q.level)
  where
    go : Dec (3 < q.level) → min q.level 3 ≡ cond (eqb mode 3) (cond (ltb 3 q.level) 3 q.level) 3
    go (yes h) = rw (eq-eqb mode 3 e, lt-ltb 3 q.level h) (omega arith)
    go (no h) = rw (eq-eqb mode 3 e, le-ltb 3 q.level (omega arith)) (omega arith)
