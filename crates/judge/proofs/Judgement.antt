-- The judgement, from what its parts ensure.
use Rattle.sheet.specs.declared.Refused.{Refused, TheVariants.{Bad, Old}}
use Rattle.sheet.specs.Refused.{number_of as sheet_number, told as sheet_told}
use Rattle.judge.specs.declared.Refusal.{Refusal}
use Rattle.judge.specs.Refusal.{number_of, told}
use Rattle.std.specs.Prelude.{IsErrAnd}
use Rattle.octets.proofs.Kit.{ℕ, ◌⊎◌, ⊎_elim, ◌≤◌, ◌<◌, ◌≡◌, refl, sym, ap, ◌∙◌, List, Bool, true, false, not, arith, length, lt-ltb, le-ltb, ne_eqb}
use Rattle.std.proofs.Common.{Result, Ok, Err}
use Rattle.pdu.specs.declared.ReadRefusal.{ReadRefusal}
use Rattle.sheet.{specs.{Rules.refusal_of}, proofs.promises.Verdicts.not_refused}
use Rattle.pdu.specs.{Rules.code_of, Table.service_at, Read.{read_pdu, read_outcome, data_of}}
use Rattle.pdu.specs.declared.Pdu.{Pdu}
use Rattle.judge.specs.{declared.{Session.Session, Reach.Reach, Decision.Decision}, Decisions.refused, Session.level_in, Modes.{reaches, takes}}
use Rattle.judge.specs.{Judge.{data_in, decide_of, reached_of, found_of, is_shut, checked_of, judge_of}, Unread.Unread}

some : (e : Refused) → sheet_number e ≡ 0 → ⊥
some Bad h = omega arith
some Old h = omega arith

module _ (s : List ℕ) (q : Session) (mode group : ℕ) (a : List ℕ) (r : Decision) where
  -- by the reach of the service
  module _ (k : Reach) (b : Bool) (b-is : b ≡ reaches k) where
    pub unreached : not b ≡ true → r ≡ refused 8 → r ≡ reached_of s q mode group a k
    unfolding reached_of
    unreached h g = simp (← b-is, h) g

    module _ (h : not b ≡ false) (t : Bool) (t-is : t ≡ takes k mode) where
      pub untaken : not t ≡ true → r ≡ refused 9 → r ≡ reached_of s q mode group a k
      unfolding reached_of
      untaken m g = simp (← b-is, h, ← t-is, m) g

      module _ (m : not t ≡ false) (x : Result Pdu ReadRefusal) (x-is : x ≡ read_pdu a) where
        pub unread : (n : ReadRefusal) (o : ℕ) → x ≡ Err n → o ≡ read_outcome x → r ≡ refused o → r ≡ reached_of s q mode group a k
        unfolding reached_of
        unread n o e o_is g = simp (← b-is, h, ← t-is, m, ← x-is, e) (g ∙ ap refused (o_is ∙ ap read_outcome e))

        pub decided :
            (p : Pdu) (d : List ℕ) (l : ℕ) → x ≡ Ok p → d ≡ data_in x a → l ≡ level_in q mode → r ≡ decide_of s l group d p →
            r ≡ reached_of s q mode group a k
        unfolding reached_of
        decided p d l e d-is l-is g =
            let w : d ≡ data_of p a = d-is ∙ ap (λ (y : Result Pdu ReadRefusal). data_in y a) e in
            simp (← b-is, h, ← t-is, m, ← x-is, e, ← l-is, ← w) g

  -- on a sheet that is not refused, in the order of the outcomes
  pub too_short_lem : length a < 2 → r ≡ refused 5 → r ≡ checked_of s q mode group a
  too_short_lem h g = simp (lt-ltb _ _ h) g

  module _ (two : 2 ≤ length a) where
    pub too_long_lem : 16 < length a → r ≡ refused 5 → r ≡ checked_of s q mode group a
    too_long_lem h g = simp (le-ltb _ _ two, lt-ltb _ _ h) g

    module _ (most : length a ≤ 16) where
      pub no_mode : 3 < mode → r ≡ refused 6 → r ≡ checked_of s q mode group a
      no_mode h g = simp (le-ltb _ _ two, le-ltb _ _ most, lt-ltb _ _ h) g

      module _ (known : mode ≤ 3) (c : Bool) (c_is : c ≡ is_shut q mode) where
        pub shut : c ≡ true → r ≡ refused 7 → r ≡ checked_of s q mode group a
        shut h g = simp (le-ltb _ _ two, le-ltb _ _ most, le-ltb _ _ known, ← c_is, h) g

        pub by_code : c ≡ false → r ≡ found_of s q mode group a (service_at (code_of a)) → r ≡ checked_of s q mode group a
        by_code h g = simp (le-ltb _ _ two, le-ltb _ _ most, le-ltb _ _ known, ← c_is, h) g

  -- the buffer and the sheet before them
  module _ (room : ℕ) where
    pub no_room_lem : room < 16 → r ≡ refused 3 → r ≡ judge_of room s q mode group a
    unfolding judge_of
    no_room_lem h g = simp (lt-ltb _ _ h) g

    module _ (roomy : 16 ≤ room) (n : ℕ) (n-is : n ≡ refusal_of s) where
      pub not_accepted : (n ≡ 0 → ⊥) → r ≡ refused n → r ≡ judge_of room s q mode group a
      unfolding judge_of
      not_accepted h g = rw (← n-is) (simp (le-ltb _ _ roomy, ne_eqb n 0 h) g)

      pub on_checks : n ≡ 0 → r ≡ checked_of s q mode group a → r ≡ judge_of room s q mode group a
      unfolding judge_of
      on_checks good g = simp (le-ltb _ _ roomy, sym n-is ∙ good) g

-- WHAT REFUSES A REQUEST UNREAD, and that nothing does
module _ (room : ℕ) (s : List ℕ) (q : Session) (mode : ℕ) (a : List ℕ) where
  stops : (n : ℕ) → (n ≡ 0 → ⊥) → ((group : ℕ) → refused n ≡ judge_of room s q mode group a) → Unread room s q mode a n
  stops n h g =
      record { refuses = λ _ group. sym (g group); accepted = λ e. absurd (h e); goes = λ e. absurd (h e) }

  pub unread_room : room < 16 → Unread room s q mode a 3
  unread_room h = stops 3 (λ e. omega arith) (λ group. no_room_lem s q mode group a (refused 3) room h refl)

  module _ (roomy : 16 ≤ room) (x : Result (Unit {0}) Refused) (x-is : sheet_told x ≡ refusal_of s) where
    pub unread_sheet :
        (e : Refused) (y : Result (Unit {0}) Refusal) → x ≡ Err e → IsErrAnd y (λ r. number_of r ≡ sheet_number e) → Unread room s q mode a (told y)
    unread_sheet e (Ok u) h k = absurd k
    unread_sheet e (Err r) h k =
        let n-is : number_of r ≡ refusal_of s = k ∙ ap sheet_told (sym h) ∙ x-is in
        let n : number_of r ≡ 0 → ⊥ = λ z. some e (sym k ∙ z) in
        stops (number_of r) n (λ group. not_accepted s q mode group a (refused (number_of r)) room roomy (number_of r) n-is n refl)

    module _ (u : Unit {0}) (h : x ≡ Ok u) where
      good : 0 ≡ refusal_of s
      good = ap sheet_told (sym h) ∙ x-is

      checks : (m : ℕ) → (m ≡ 0 → ⊥) → ((group : ℕ) → refused m ≡ checked_of s q mode group a) → Unread room s q mode a m
      checks m h g = stops m h (λ group. on_checks s q mode group a (refused m) room roomy 0 good refl (g group))

      unread_short : length a < 2 → Unread room s q mode a 5
      unread_short h = checks 5 (λ e. omega arith) (λ group. too_short_lem s q mode group a (refused 5) h refl)

      unread_long : 2 ≤ length a → 16 < length a → Unread room s q mode a 5
      unread_long two h = checks 5 (λ e. omega arith) (λ group. too_long_lem s q mode group a (refused 5) two h refl)

      pub unread_length : (length a < 2) ⊎ ((2 ≤ length a) × (16 < length a)) → Unread room s q mode a 5
      unread_length h = ⊎_elim unread_short (λ (p : (2 ≤ length a) × (16 < length a)). unread_long p.0 p.1) h

      module _ (two : 2 ≤ length a) (most : length a ≤ 16) where
        pub unread_mode : 3 < mode → Unread room s q mode a 6
        unread_mode h = checks 6 (λ e. omega arith) (λ group. no_mode s q mode group a (refused 6) two most h refl)

        module _ (known : mode ≤ 3) (c : Bool) (c_is : c ≡ is_shut q mode) where
          pub unread_shut : c ≡ true → Unread room s q mode a 7
          unread_shut h = checks 7 (λ e. omega arith) (λ group. shut s q mode group a (refused 7) two most known c c_is h refl)

          pub unread_none : c ≡ false → Unread room s q mode a 0
          unread_none h =
              record {
                refuses = λ e. absurd (e refl);
                accepted = λ _. not_refused s 0 good refl;
                goes = λ _ group.
                    let k = found_of s q mode group a (service_at (code_of a)) in
                    sym (on_checks s q mode group a k room roomy 0 good refl (by_code s q mode group a k two most known c c_is h refl));
              }
