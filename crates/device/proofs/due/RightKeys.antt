-- Keys and restart: what is due is what is done.
use Rattle.octets.proofs.Kit.{ℕ, ◌*◌, ◌-◌, ◌≡◌, refl, sym, ap, subst, ◌∙◌, true, false, List, [], arith, eq-eqb, ne_eqb}
use Rattle.octets.specs.{Bytes.bytes_of, Splice.splice}
use Rattle.sheet.specs.Layout.{◌of◌}
use Rattle.sheet.specs.Head as head
use Rattle.pdu.specs.{Write.encoded, declared.Pdu.TheVariants.{AuthorizeRequest, KeyWrite, Restart, AuthorizeResponse, KeyResponse}}
use Rattle.judge.{specs.{declared.Decision.Decision, Session.level_in, Keys.{grant_of, authorize_of, key_write_of, restart_of}}, proofs.KeyCases.{keyed, grant_cases, key_write_cases, key_writes}}
use Rattle.judge.specs.Decisions as decisions
use Rattle.device.specs.{Step.{Step, step_by}, Asked.{Asked, says, says_after, Reads, given}}
use Rattle.device.specs.KeysDue.{KeysDue, Grants, key0, key1, key2, other, KeyWritable, authorize, key_write, no_key_write, restart}
use Rattle.device.proofs.{due.Acts.{acts, acts_at_lem}, leaves.Flags.verify_left, due.Stepped.{step, step_read}}

-- the level that a key grants
pub grants : (s : List ℕ) (key : ℕ) → Grants s key (grant_of s key)
grants s key = grant_cases s key (Grants s key) key0 key1 key2 other

pub grants_is : (s : List ℕ) (key : ℕ) {l : ℕ} → Grants s key l → grant_of s key ≡ l
unfolding grant_of
grants_is s key (key0 a) = simp (eq-eqb key (head.key 0 of s) (sym a))
grants_is s key (key1 a b) = simp (ne_eqb key (head.key 0 of s) (λ e. a (sym e)), eq-eqb key (head.key 1 of s) (sym b))
grants_is s key (key2 a b c) =
    simp
    (ne_eqb key (head.key 0 of s) (λ e. a (sym e)), ne_eqb key (head.key 1 of s) (λ e. b (sym e)), eq-eqb key (head.key 2 of s) (sym c))
grants_is s key (other a b c) =
    simp
    (ne_eqb key (head.key 0 of s) (λ e. a (sym e)), ne_eqb key (head.key 1 of s) (λ e. b (sym e)), ne_eqb key (head.key 2 of s) (λ e. c (sym e)))

module _ (x : Asked) where
  -- what a grant of a level does
  abbrev granted : ℕ → Step
  granted level =
      record {
        outcome = 0;
        answer = encoded (AuthorizeResponse level) [];
        session = record { opened = x.session.opened; level = level };
        sheet = x.sheet;
        restarts = false;
      }

  module _ (key : ℕ) (r : Reads x (AuthorizeRequest key)) where
    pub only_authorize : (level : ℕ) → Grants x.sheet key level → granted level ≡ step x
    unfolding step_by authorize_of
    only_authorize level g = ap granted (sym (grants_is x.sheet key g)) ∙ step_read x _ r _ refl

    pub right_authorize :
        KeysDue x (step_by x.sheet x.session (given x (AuthorizeRequest key)) (authorize_of x.sheet key))
    unfolding step_by authorize_of
    right_authorize = authorize key (grant_of x.sheet key) r (grants x.sheet key)

  module _ (named key : ℕ) (r : Reads x (KeyWrite named key)) where
    writes : KeyWritable x named → key_write_of (level_in x.session x.mode) named key ≡ keyed (level_in x.session x.mode) named key
    writes w = key_writes (level_in x.session x.mode) named key w.known (acts_at_lem x named w.acts w.suffices)

    pub only_key_write :
        KeyWritable x named → says_after x (splice x.sheet (head.key named).at (bytes_of 4 key)) (KeyResponse named) [] ≡ step x
    unfolding step_by
    only_key_write w = step_read x _ r _ (writes w)

    pub only_no_key_write : (KeyWritable x named → ⊥) → says x 11 (KeyResponse 255) [] ≡ step x
    unfolding step_by
    only_no_key_write f =
        step_read x _ r _
        (key_write_cases (level_in x.session x.mode) named key (λ (k : Decision). k ≡ decisions.denied (KeyResponse 255))
        (λ h l. absurd (f (record { known = h; level = level_in x.session x.mode; acts = acts x; suffices = l })))
        refl)

    pub right_key_write :
        KeysDue x
        (step_by x.sheet x.session (given x (KeyWrite named key)) (key_write_of (level_in x.session x.mode) named key))
    unfolding step_by
    right_key_write =
        key_write_cases (level_in x.session x.mode) named key
        (λ (k : Decision). key_write_of (level_in x.session x.mode) named key ≡ k → KeysDue x (step_by x.sheet x.session (given x (KeyWrite named key)) k))
        (λ h l e. key_write named key r (record { known = h; level = level_in x.session x.mode; acts = acts x; suffices = l }))
        (λ e.
        no_key_write named key r
        (λ w. let z : ◌≡◌ {A = ℕ} 0 11 = ap (λ (k : Decision). k.outcome) (sym (writes w) ∙ e) in omega arith))
        refl

  module _ (r : Reads x Restart) where
    -- what a restart does, these being the flags afterwards
    abbrev restarted : ℕ → Step
    restarted f =
        record {
          outcome = 1;
          answer = [];
          session = record { opened = false; level = 3 };
          sheet = splice x.sheet (head.flags).at (bytes_of 1 f);
          restarts = true;
        }

    left : head.flags of x.sheet - head.programming x.sheet ≡ head.verify x.sheet * 2
    left = verify_left x.sheet r.ready.sheet

    pub only_restart : restarted (head.verify x.sheet * 2) ≡ step x
    unfolding step_by restart_of
    only_restart = ap restarted (sym left) ∙ step_read x _ r _ refl

    pub right_restart : KeysDue x (step_by x.sheet x.session (given x Restart) (restart_of x.sheet))
    unfolding step_by restart_of
    right_restart = subst (λ (f : ℕ). KeysDue x (restarted f)) (sym left) (restart r)
