-- Group values, from what their parts ensure.
use Rattle.octets.proofs.Kit.{ℕ, ◌≡◌, ◌∙◌, refl, sym, List, Bool, true, false, cond, ◌&&◌, ltb, lt-ltb}
use Rattle.octets.proofs.Tests.{not_second_lem}
use Rattle.std.specs.Prelude.{Option, None, Some}
use Rattle.sheet.specs.{Kind.groups, Entries.count, Lookup.index_of, Places.IsGroup, declared.GroupEntry.GroupEntry}
use Rattle.judge.specs.{declared.Decision.Decision, Decisions.refused, Groups.{has_flag, read, flags_at, Flagged, FlaggedAt, value_of, put_value, group_read_of, group_put_of}}

-- a choice in a choice, the other answer being the same
neither : {A : Type 0} (a b : Bool) (x y : A) → (a && b) ≡ false → cond a (cond b x y) y ≡ y
neither true true x y h = cc
neither true false x y h = refl
neither false b x y h = refl

module _ (s : List ℕ) (address w v d : ℕ) (f : Option GroupEntry) (r : Decision) where
  none :
      (w : ℕ) → Flagged w s address f → f ≡ None →
      (ltb (index_of s groups address) (count s groups) && has_flag w (flags_at s (index_of s groups address))) ≡ false
  none w g h = rw h at g.none

  some : (w : ℕ) (e : GroupEntry) → Flagged w s address f → f ≡ Some e → FlaggedAt w s address e
  some w e g h = rw h at g.some

  pub read_shut : Flagged read s address f → f ≡ None → r ≡ refused 2 → r ≡ group_read_of s address
  unfolding group_read_of
  read_shut g h k = rw (neither _ _ (value_of s _ _) (refused 2) (none read g h)) k

  pub put_shut : Flagged w s address f → f ≡ None → r ≡ refused 2 → r ≡ group_put_of w s address v d
  unfolding group_put_of
  put_shut g h k = rw (neither _ _ (put_value _ _ v d) (refused 2) (none w g h)) k

  module _ (e : GroupEntry) where
    pub read_open : Flagged read s address f → f ≡ Some e → r ≡ value_of s e.code e.offset → r ≡ group_read_of s address
    unfolding group_read_of flags_at
    read_open g h k = let t = some read e g h in simp (lt-ltb _ _ t.there, ← t.is.flags, t.has, ← t.is.code, ← t.is.offset) k

    pub put_open : Flagged w s address f → f ≡ Some e → r ≡ put_value e.code e.offset v d → r ≡ group_put_of w s address v d
    unfolding group_put_of flags_at
    put_open g h k = let t = some w e g h in simp (lt-ltb _ _ t.there, ← t.is.flags, t.has, ← t.is.code, ← t.is.offset) k

-- a flag that it has not
pub lacks :
    (w : ℕ) (s : List ℕ) (address i : ℕ) (e : GroupEntry) (b : Bool) → i ≡ index_of s groups address → IsGroup s i e → b ≡ has_flag w e.flags → b ≡ false →
    Flagged w s address None
unfolding flags_at
lacks w s address i e b h g k z =
    let n : has_flag w (flags_at s (index_of s groups address)) ≡ false = simp (← h, ← g.flags) (sym k ∙ z) in
    record {
      none = not_second_lem (ltb (index_of s groups address) (count s groups)) _ n;
      some = tt;
    }
