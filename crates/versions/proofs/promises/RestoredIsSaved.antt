-- RESTORED IS SAVED, end to end.
use Rattle.octets.proofs.Kit.{ℕ, ◌+◌, ◌<◌, ◌≡◌, sym, ap, subst, ◌∙◌, true, List, dec_lt, arith, eqb, get_or, take, drop, eq-eqb}
use Rattle.octets.{specs.{Bytes.bytes_of, Octets.Octets}, proofs.Octet.{octets_append, octets_bytes, octets_take, octets_drop}}
use Rattle.sheet.{specs.{Kind.{properties, groups}, Layout.◌of◌, Rules.Accepted, Entries.{base, start_of}, Agree.Agree}, proofs.promises.Agrees.both_or_neither}
use Rattle.judge.specs.declared.Session.{Session}
use Rattle.versions.specs.{Store.{kept, is_kept, version_in, has, body_of}, Settings.{front, many, entries_long, bodies_long, settings_of, restored, SameEntries, LowCounts, Elsewhere}}
use Rattle.versions.specs.{Saving.{save_outcome, save_number, save_store}, Restoring.{restore_outcome, restore_sheet}, Due.{AtZero, is_restored}, Sequence.{Change, changed_all, AllSpare}}
use Rattle.versions.specs.Head as head
use Rattle.versions.proofs.{promises.{Agreeing.{entries_to, low_to}, OwnVersion.{own_entries, own_counts}}, GivenBack.given_back_lem, promises.Keeping.{it_keeps, passes, keeps_these}}
use Rattle.versions.proofs.{Grows.and, promises.{Dues.{save_free, allowed, restore_only}, Sequences.{carried, Stays, has_new, has_none, kept_stays}}}
use Rattle.versions.proofs.promises.Restores as re

pub octets_settings : (s : List ℕ) → Octets s → Octets (settings_of s)
unfolding settings_of
octets_settings s h =
    octets_append (bytes_of front (many s)) _ (octets_bytes front (many s))
    (octets_append (take (entries_long s) (drop (base s properties) s)) _ (octets_take (entries_long s) (drop (base s properties) s) (octets_drop (base s properties) s h))
    (octets_take (bodies_long s) (drop (start_of s properties) s) (octets_drop (start_of s properties) s h)))

-- EVERY OTHER BYTE of a sheet that is restored stays
pub elsewhere_stays : {s d : List ℕ} → Accepted s → SameEntries s d → (p : ℕ) → Elsewhere s p → get_or (restored s d) p 0 ≡ get_or s p 0
unfolding restored
elsewhere_stays {s} {d} ok same p h = go (dec_lt p (base s properties)) (dec_lt p (base s properties + entries_long s)) (dec_lt p (start_of s properties)) (dec_lt p (start_of s groups))
  where
    go :
        Dec (p < base s properties) → Dec (p < base s properties + entries_long s) → Dec (p < start_of s properties) → Dec (p < start_of s groups) →
        get_or (re.u ok same) p 0 ≡ get_or s p 0
    go (yes a) b c e = re.before ok same p a
    go (no a) (yes b) c e = absurd (h.no_entry (omega arith) b)
    go (no a) (no b) (yes c) e = re.between ok same p (omega arith) c
    go (no a) (no b) (no c) (yes e) = absurd (h.no_body (omega arith) e)
    go (no a) (no b) (no c) (no e) = re.behind ok same p (omega arith)

-- the sheet after a restore that is carried out
restore_gives : (q : Session) (sheet s : List ℕ) (x : ℕ) → restore_outcome q sheet s x ≡ 1 → restore_sheet q sheet s x ≡ restored sheet (version_in s x)
unfolding restore_sheet
restore_gives q sheet s x e = let t : eqb (restore_outcome q sheet s x) 1 ≡ true = eq-eqb (restore_outcome q sheet s x) 1 e in rw t

-- A sheet saved in s; then whatever else is done to the store, but for a removal of this version
module _ (s : List ℕ) (b : Octets s) (sheet : List ℕ) (e : save_outcome sheet s ≡ 0) (cs : List Change) (spared : AllSpare (save_number sheet s) cs) where
  abbrev number : ℕ
  number = save_number sheet s

  abbrev later : List ℕ
  later = changed_all cs (save_store sheet s)

  stays : Stays number (settings_of sheet) later
  stays =
      let last : ℕ = head.last of s in
      let k = it_keeps s b (save_free sheet s e).ready.good in
      let r = carried k sheet e in
      let n = has_new (last + 1) (kept s) (settings_of sheet) (has_none (last + 1) (kept s) (omega arith) k.good.rising) in
      let h : Stays (last + 1) (settings_of sheet) (save_store sheet s) =
      record { last = last + 1; versions = and (kept s) (last + 1) (settings_of sheet); keeps = r.store; there = n.0; body = n.1 }
      in
      kept_stays number (settings_of sheet) cs (save_store sheet s) spared (rw r.number h)

  there : is_kept later number ≡ true
  unfolding is_kept
  there = ap (has number) (keeps_these stays.keeps) ∙ stays.there

  its_body : version_in later number ≡ settings_of sheet
  unfolding version_in
  its_body = ap (body_of number) (keeps_these stays.keeps) ∙ stays.body

  -- what is so of a sheet t after a restore, `before` being the sheet just before
  pub record GivenBack (before t : List ℕ) : Type 0 where
    -- counts and bodies of its properties are those of the sheet that was saved
    pub settings : settings_of t ≡ settings_of sheet
    -- every other byte is as just before
    pub others : (p : ℕ) → Elsewhere before p → get_or t p 0 ≡ get_or before p 0
    pub accepted : Accepted t

  -- RESTORED IS SAVED, on any sheet where the restore is carried out
  pub restored_is_saved :
      Octets sheet → (q : Session) (before : List ℕ) → restore_outcome q before later number ≡ 1 → GivenBack before (restore_sheet q before later number)
  restored_is_saved small q before f =
      let a = allowed q before later number f in
      let ok : Accepted before = a.known.ready.accepted in
      let same : SameEntries before (settings_of sheet) = subst (SameEntries before) its_body a.same in
      let low : LowCounts before (settings_of sheet) = subst (LowCounts before) its_body a.low in
      let r : restore_sheet q before later number ≡ restored before (settings_of sheet) = restore_gives q before later number f ∙ ap (restored before) its_body in
      record {
        settings = ap settings_of r ∙ given_back_lem ok (octets_settings sheet small) same low;
        others = λ p h. ap (λ (l : List ℕ). get_or l p 0) r ∙ elsewhere_stays ok same p h;
        accepted = subst Accepted (sym r) (re.restored_accepted ok same low);
      }

  -- AND IT IS CARRIED OUT for a session open at level 0, on any sheet that agrees with the one that was saved on what the rules read
  pub restore_carried : (q : Session) → AtZero q → (before : List ℕ) → Agree sheet before → restore_outcome q before later number ≡ 1
  restore_carried q z before a =
      let ok : Accepted sheet = (save_free sheet s e).ready.accepted in
      let same : SameEntries before (version_in later number) = subst (SameEntries before) (sym its_body) (entries_to a (settings_of sheet) (own_entries sheet ok)) in
      let low : LowCounts before (version_in later number) = subst (LowCounts before) (sym its_body) (low_to a (settings_of sheet) (own_counts sheet ok)) in
      sym
      (restore_only q before later number 1 _
      (is_restored (record { ready = record { accepted = (both_or_neither a).0 ok; good = passes stays.keeps }; there = there }) z same low)).0
