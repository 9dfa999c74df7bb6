-- Lines are answered one by one, while tenants come, take other quotas and go.
use Rattle.std.proofs.Common.{◌≡◌, ◌≢◌, ◌∙◌, sym, ap, subst, refl, ℕ, ◌+◌, ◌<◌, Bool, true, false, cond, not, ◌&&◌, ◌||◌}
use Rattle.std.proofs.Common.{List, [], ◌∷◌, ◌++◌, Option, None, Some, is_some, length, take, get_or}
use Rattle.std.proofs.Common.{arith, length-take-le}
use Rattle.std.specs.List.{AllByRecursion, cons_option}
use Rattle.std.specs.Str.{bytes_eq}
use Rattle.std.specs.Cmp.Lexicographic.{bytes_decides}
use Rattle.std.proofs.lemmas.Bool.{true≢false}
use Rattle.std.proofs.lemmas.List.{take_more}
use Rattle.etcd_types.specs.declared.reply.Reply.TheVariants.{Refused}
use Rattle.etcd_model.specs.declared.state.History.{History}
use Rattle.etcd_model.specs.declared.state.State.{State}
use Rattle.etcd_model.specs.Calls.{Target, target_of}
use Rattle.etcd_model.specs.Held.{Holds}
use Rattle.etcd_model.specs.ReplyText.{Answer, memory_answer, text}
use Rattle.etcd_model.specs.Store.{Store}
use Rattle.etcd_model.specs.Alone.{Event, Called, Stepped, Turn, names, is_of, is_own, is_catch_up, is_unanswered, own, told}
use Rattle.etcd_model.specs.Alone.{read_event, answer_to, after_read}
use Rattle.tenant_machine.specs.Tenants.{tenant}
use Rattle.tenant_rules.specs.declared.fault.OperatorFault.{OperatorFault}
use Rattle.steps_core.specs.Hosts.{HostState, HoldsAt, machine_at, has_tenant}
use Rattle.steps_core.specs.Adding.{add_fault, Adds}
use Rattle.tenant_rules.specs.Rules.{first_fault}
use Rattle.tenant_machine.specs.Reserving.{resized}
use Rattle.steps_core.specs.Resizing.{Resizes}
use Rattle.steps_core.specs.Removing.{Removes}
use Rattle.steps_core.proofs.Runs.{there_by_names}
use Rattle.host_front.specs.declared.line.HostLine.{HostLine}
use Rattle.host_front.specs.declared.line.LineAnswer.{LineAnswer}
use Rattle.host_front.specs.declared.line.LineAnswer.TheVariants as answered
use Rattle.host_front.specs.Answering.{Answers, is_there, is_target_there, nobody, takes_none}
use Rattle.host_front.specs.Lines.{Line, Happens, Add, Resize, Remove, LineTurn, line_turn, line_of, line_turns_of}
use Rattle.host_front.specs.Lines.{turns, turn_by}
use Rattle.host_front.specs.Operating.{Lives}
use Rattle.host_front.specs.Quotas.{Own, Asks, Takes, own_by, with_quota, own_asked, quota_alone, quota_alone_after}
use Rattle.host_front.specs.Living.{AreLived, stretch, is_ended, is_end, IsAddOf, IsLastAddOf, BeginsBehind, Begins}
use Rattle.host_front.specs.Living.{IsAloneIn, is_left, is_left_by, IsNobody, is_about, AllLived}
use Rattle.host_front.proofs.Alone.{left_out, taken_in, caught_up}

-- ---- one line, and a tenant that is there

same_name : (t u : List ℕ) → bytes_eq t u ≡ true → t ≡ u
same_name t u h = (bytes_decides t u).0 h

other_name : (t u : List ℕ) → bytes_eq t u ≡ false → t ≢ u
other_name t u h = λ same. true≢false (sym ((bytes_decides t u).1 same) ∙ h)

-- another quota is held as the state with it
quota_held : (quota : ℕ) (S : State History) (m : State Store) → Holds S m
    → Holds (with_quota quota S) (with_quota quota m)
quota_held quota S m h = record {
  sound = record {
    history = h.sound.history;
    full = h.sound.full;
    keys = h.sound.keys;
    leases = record { ascend = h.sound.leases.ascend; running = h.sound.leases.running; moment = h.sound.leases.moment };
    leased = h.sound.leased;
    slots = h.sound.slots;
  };
  same = ap (with_quota quota) h.same;
}

-- where no fault applies, no tenant has the name
not_taken : (name limits taken short : Bool) → first_fault name limits taken short ≡ None → taken ≡ false
not_taken name limits false short free = refl
not_taken true limits true short free = cc
not_taken false true true short free = cc
not_taken false false true short free = cc

-- a tenant that is there is no one that is added
apart : (old : HostState) (t name : List ℕ) (cluster quota first : ℕ) (S : State History) → HoldsAt old t S
    → add_fault old name cluster quota first ≡ None → t ≢ name
apart old t name cluster quota first S held free = λ same.
    let none : has_tenant old name ≡ false = not_taken _ _ (has_tenant old name) _ free in
    true≢false (sym (ap is_some held.is) ∙ ap (has_tenant old) same ∙ none)

-- a tenant whose machine stays
module _ (old mid : HostState) (t : List ℕ) (S : State History) (held : HoldsAt old t S) where
  stays : machine_at mid t ≡ machine_at old t → HoldsAt mid t S
  stays is = record { machine = held.machine; is = is ∙ held.is; holds = held.holds }

  unchanged : mid ≡ old → HoldsAt mid t S
  unchanged is = subst (λ h. HoldsAt h t S) (sym is) held

-- a line, and a tenant that is there: it is alone from the line on, if it is so from the next on
module _ (old mid new : HostState) (later : List LineTurn) (t : List ℕ) (S : State History)
    (held : HoldsAt old t S) (next : (T : State History) → HoldsAt mid t T → IsAloneIn t T later new) where
  alone_event : (e : Event) (a : Answer) → Answers old e a mid
      → IsAloneIn t S (line_turn (Happens e) (answered.Event a) ∷ later) new
  alone_event e a answers = by (is_own t x) refl
    where
      x : Turn
      x = record { event = e; answer = a }

      ys : List Turn
      ys = turns (stretch t later)

      os : List Own
      os = own_asked t (stretch t later)

      IsTold : Bool → Type 0
      IsTold b = told (cond b (x ∷ own t ys) (own t ys)) ≡ quota_alone S (cons_option (cond b (Some (Asks e)) None) os)

      IsHeld : Bool → Type 0
      IsHeld b =
          is_ended t later ≡ false → HoldsAt new t (quota_alone_after S (cons_option (cond b (Some (Asks e)) None) os))

      by : (b : Bool) → is_own t x ≡ b → IsAloneIn t S (line_turn (Happens e) (answered.Event a) ∷ later) new
      by true h =
          let one = taken_in old mid t x S held answers h in
          let rest = next (after_read S (read_event e)) one.1 in
          record {
            answers = subst IsTold (sym h) (λ i. one.0 i ∷ rest.answers i);
            holds = subst IsHeld (sym h) rest.holds;
            catch_ups = (caught_up old mid t x S held answers, rest.catch_ups);
            sure = (λ mine takes. answers.sure t S mine takes held, rest.sure);
          }
      by false h =
          let rest = next S (left_out old mid t x S held answers h) in
          record {
            answers = subst IsTold (sym h) rest.answers;
            holds = subst IsHeld (sym h) rest.holds;
            catch_ups = (caught_up old mid t x S held answers, rest.catch_ups);
            sure = (λ mine takes. answers.sure t S mine takes held, rest.sure);
          }

  -- a line that is no event, puts nothing into the tenant's list and does not take it away
  skipped : (line : Line) (a : LineAnswer) → turn_by line a ≡ None → own_by t line a ≡ None → is_end t line a ≡ false
      → HoldsAt mid t S → IsAloneIn t S (line_turn line a ∷ later) new
  skipped line a no_turn no_own no_end stays =
      let rest = next S stays in
      let goes : stretch t (line_turn line a ∷ later) ≡ line_turn line a ∷ stretch t later =
      ap (λ b. cond b [] (line_turn line a ∷ stretch t later)) no_end in
      let same : turns (stretch t (line_turn line a ∷ later)) ≡ turns (stretch t later) =
      ap turns goes ∙ ap (λ o. cons_option o (turns (stretch t later))) no_turn in
      let asks : own_asked t (stretch t (line_turn line a ∷ later)) ≡ own_asked t (stretch t later) =
      ap (own_asked t) goes ∙ ap (λ o. cons_option o (own_asked t (stretch t later))) no_own in
      let ends : is_ended t (line_turn line a ∷ later) ≡ is_ended t later = ap (λ b. b || is_ended t later) no_end in
      record {
        answers = ap (λ xs. told (own t xs)) same ∙ rest.answers ∙ sym (ap (quota_alone S) asks);
        holds = λ no. subst (λ os. HoldsAt new t (quota_alone_after S os)) (sym asks) (rest.holds (sym ends ∙ no));
        catch_ups = subst (λ xs. AllByRecursion (λ x. is_of t x.event ≡ true → is_catch_up x.event ≡ true
            → (T : State History) → x.answer ≡ answer_to T (read_event x.event)) xs) (sym same) rest.catch_ups;
        sure = subst (λ xs. AllByRecursion (λ x. is_of t x.event ≡ true → takes_none x.event ≡ true
            → is_unanswered x.answer ≡ false) xs) (sym same) rest.sure;
      }

  -- another quota of its own
  resized_line : (name : List ℕ) (quota : ℕ) → bytes_eq t name ≡ true → HoldsAt mid t (with_quota quota S)
      → IsAloneIn t S (line_turn (Resize name quota) answered.Done ∷ later) new
  resized_line name quota mine now =
      let rest = next (with_quota quota S) now in
      let os = own_asked t (stretch t later) in
      record {
        answers = subst (λ b. told (own t (turns (stretch t later)))
            ≡ quota_alone S (cons_option (cond b (Some (Takes quota)) None) os)) (sym mine) rest.answers;
        holds = subst (λ b. is_ended t later ≡ false
            → HoldsAt new t (quota_alone_after S (cons_option (cond b (Some (Takes quota)) None) os)))
            (sym mine) rest.holds;
        catch_ups = rest.catch_ups;
        sure = rest.sure;
      }

  -- its end
  ended_line : (name : List ℕ) → bytes_eq t name ≡ true
      → IsAloneIn t S (line_turn (Remove name) answered.Done ∷ later) new
  ended_line name mine =
      let none : stretch t (line_turn (Remove name) answered.Done ∷ later) ≡ [] =
      ap (λ b. cond b [] (line_turn (Remove name) answered.Done ∷ stretch t later)) mine in
      record {
        answers = ap (λ xs. told (own t (turns xs))) none ∙ sym (ap (λ xs. quota_alone S (own_asked t xs)) none);
        holds = λ no. absurd (true≢false (sym (ap (λ b. b || is_ended t later) mine) ∙ no));
        catch_ups = subst (λ xs. AllByRecursion (λ x. is_of t x.event ≡ true → is_catch_up x.event ≡ true
            → (T : State History) → x.answer ≡ answer_to T (read_event x.event)) (turns xs)) (sym none) tt;
        sure = subst (λ xs. AllByRecursion (λ x. is_of t x.event ≡ true → takes_none x.event ≡ true
            → is_unanswered x.answer ≡ false) (turns xs)) (sym none) tt;
      }

  resize_done : (name : List ℕ) (quota : ℕ) → Resizes old name quota mid
      → IsAloneIn t S (line_turn (Resize name quota) answered.Done ∷ later) new
  resize_done name quota made = by (bytes_eq t name) refl
    where
      by : (b : Bool) → bytes_eq t name ≡ b → IsAloneIn t S (line_turn (Resize name quota) answered.Done ∷ later) new
      by true h =
          let same = same_name t name h in
          let one : held.machine ≡ made.machine = cc (sym held.is ∙ ap (machine_at old) same, made.is) in
          resized_line name quota h (record {
            machine = resized quota made.machine;
            is = ap (machine_at mid) same ∙ made.own;
            holds = quota_held quota S (tenant made.machine) (subst (λ m. Holds S (tenant m)) one held.holds);
          })
      by false h =
          skipped (Resize name quota) answered.Done refl (ap (λ b. cond b (Some (Takes quota)) None) h) refl
          (stays old mid t S held (made.only.others t (other_name t name h)))

  remove_done : (name : List ℕ) → Removes old name mid
      → IsAloneIn t S (line_turn (Remove name) answered.Done ∷ later) new
  remove_done name made = by (bytes_eq t name) refl
    where
      by : (b : Bool) → bytes_eq t name ≡ b → IsAloneIn t S (line_turn (Remove name) answered.Done ∷ later) new
      by true h = ended_line name h
      by false h =
          skipped (Remove name) answered.Done refl refl h
          (stays old mid t S held (made.only.others t (other_name t name h)))

  pub alone_line : (line : Line) (a : LineAnswer) → Lives old line a mid → IsAloneIn t S (line_turn line a ∷ later) new
  alone_line (Happens e) (answered.Event a) lives = alone_event e a lives
  alone_line (Happens e) answered.Done lives = absurd lives
  alone_line (Happens e) (answered.No f) lives = absurd lives
  alone_line (Add name cluster quota first) answered.Done lives =
      skipped (Add name cluster quota first) answered.Done refl refl refl
      (stays old mid t S held (lives.1.others t (apart old t name cluster quota first S held lives.0)))
  alone_line (Add name cluster quota first) (answered.No f) lives =
      skipped (Add name cluster quota first) (answered.No f) refl refl refl (unchanged old mid t S held lives.0)
  alone_line (Add name cluster quota first) (answered.Event a) lives = absurd lives
  alone_line (Resize name quota) answered.Done lives = resize_done name quota lives.1
  alone_line (Resize name quota) (answered.No f) lives =
      skipped (Resize name quota) (answered.No f) refl refl refl (unchanged old mid t S held lives.0)
  alone_line (Resize name quota) (answered.Event a) lives = absurd lives
  alone_line (Remove name) answered.Done lives = remove_done name lives.1
  alone_line (Remove name) (answered.No f) lives =
      skipped (Remove name) (answered.No f) refl refl refl (unchanged old mid t S held lives.0)
  alone_line (Remove name) (answered.Event a) lives = absurd lives

-- ---- stretches

lines_alone : (old new : HostState) (xs : List LineTurn) (t : List ℕ) (S : State History) → AreLived old xs new
    → HoldsAt old t S → IsAloneIn t S xs new
lines_alone old new [] t S is held = record {
  answers = refl;
  holds = λ no. subst (λ h. HoldsAt h t S) (sym is) held;
  catch_ups = tt;
  sure = tt;
}
lines_alone old new (x ∷ xs) t S (mid, lives, rest) held =
    alone_line old mid new xs t S held (λ T now. lines_alone mid new xs t T rest now) x.line x.answer lives

-- the line that made the tenant leaves it at its opening
opened : (old mid : HostState) (line : Line) (a : LineAnswer) (t : List ℕ) (S : State History) → Lives old line a mid
    → IsAddOf t S line a → HoldsAt mid t S
opened old mid (Add name cluster quota first) answered.Done t S lives (same, opens) =
    let adds = lives.1 in
    record {
      machine = adds.machine;
      is = ap (machine_at mid) same ∙ adds.own;
      holds = subst (λ T. Holds T (tenant adds.machine)) (sym opens) adds.opens;
    }
opened old mid (Add name cluster quota first) (answered.No f) t S lives never = absurd never
opened old mid (Add name cluster quota first) (answered.Event a) t S lives never = absurd never
opened old mid (Happens e) a t S lives never = absurd never
opened old mid (Resize name quota) a t S lives never = absurd never
opened old mid (Remove name) a t S lives never = absurd never

alone_added : (old new : HostState) (x : LineTurn) (before later : List LineTurn) (t : List ℕ) (S : State History)
    → AreLived old (x ∷ before ++ later) new → IsLastAddOf t S x before → IsAloneIn t S later new
alone_added old new x [] later t S (mid, lives, rest) made =
    lines_alone mid new later t S rest (opened old mid x.line x.answer t S lives made)
alone_added old new x (y ∷ ys) later t S (mid, lives, rest) made = alone_added mid new y ys later t S rest made

alone_behind : (old new : HostState) (before later : List LineTurn) (t : List ℕ) (S : State History)
    → AreLived old (before ++ later) new → BeginsBehind old t S before → IsAloneIn t S later new
alone_behind old new [] later t S is held = lines_alone old new later t S is held
alone_behind old new (x ∷ xs) later t S is made = alone_added old new x xs later t S is made

stretch_alone : (old new : HostState) (xs later : List LineTurn) (t : List ℕ) (S : State History)
    → AreLived old xs new → Begins old xs t S later → IsAloneIn t S later new
stretch_alone old new xs later t S is from =
    alone_behind old new from.before later t S (subst (λ ys. AreLived old ys new) from.lines is) from.begins

-- ---- one line, and who is there after it

-- a line of each kind, by what it leaves
record Kinds (old mid : HostState) (P : Line → LineAnswer → Type 0) : Type 0 where
  pub happens : (e : Event) (a : Answer) → Answers old e a mid → P (Happens e) (answered.Event a)
  pub adds : (name : List ℕ) (cluster quota first : ℕ) → Adds old name cluster quota first mid
      → P (Add name cluster quota first) answered.Done
  pub resizes : (name : List ℕ) (quota : ℕ) → Resizes old name quota mid → P (Resize name quota) answered.Done
  pub removes : (name : List ℕ) → Removes old name mid → P (Remove name) answered.Done
  pub no_add : (name : List ℕ) (cluster quota first : ℕ) (f : OperatorFault) → mid ≡ old
      → P (Add name cluster quota first) (answered.No f)
  pub no_resize : (name : List ℕ) (quota : ℕ) (f : OperatorFault) → mid ≡ old
      → P (Resize name quota) (answered.No f)
  pub no_remove : (name : List ℕ) (f : OperatorFault) → mid ≡ old → P (Remove name) (answered.No f)

by_kind : (old mid : HostState) (P : Line → LineAnswer → Type 0) → Kinds old mid P → (line : Line) (a : LineAnswer)
    → Lives old line a mid → P line a
by_kind old mid P k (Happens e) (answered.Event a) lives = k.happens e a lives
by_kind old mid P k (Happens e) answered.Done lives = absurd lives
by_kind old mid P k (Happens e) (answered.No f) lives = absurd lives
by_kind old mid P k (Add name cluster quota first) answered.Done lives = k.adds name cluster quota first lives.1
by_kind old mid P k (Add name cluster quota first) (answered.No f) lives = k.no_add name cluster quota first f lives.0
by_kind old mid P k (Add name cluster quota first) (answered.Event a) lives = absurd lives
by_kind old mid P k (Resize name quota) answered.Done lives = k.resizes name quota lives.1
by_kind old mid P k (Resize name quota) (answered.No f) lives = k.no_resize name quota f lives.0
by_kind old mid P k (Resize name quota) (answered.Event a) lives = absurd lives
by_kind old mid P k (Remove name) answered.Done lives = k.removes name lives.1
by_kind old mid P k (Remove name) (answered.No f) lives = k.no_remove name f lives.0
by_kind old mid P k (Remove name) (answered.Event a) lives = absurd lives

there_still : (old mid : HostState) (t : List ℕ) → mid ≡ old → has_tenant mid t ≡ has_tenant old t
there_still old mid t is = ap (λ h. has_tenant h t) is

there_added : (old mid : HostState) (t name : List ℕ) (cluster quota first : ℕ) → Adds old name cluster quota first mid
    → has_tenant mid t ≡ (bytes_eq t name || has_tenant old t)
there_added old mid t name cluster quota first made = by (bytes_eq t name) refl
  where
    by : (b : Bool) → bytes_eq t name ≡ b → has_tenant mid t ≡ (bytes_eq t name || has_tenant old t)
    by true h =
        ap (has_tenant mid) (same_name t name h) ∙ ap is_some made.own
        ∙ sym (ap (λ b. b || has_tenant old t) h)
    by false h = ap is_some (made.others t (other_name t name h)) ∙ sym (ap (λ b. b || has_tenant old t) h)

there_removed : (old mid : HostState) (t name : List ℕ) → Removes old name mid
    → has_tenant mid t ≡ (not (bytes_eq t name) && has_tenant old t)
there_removed old mid t name made = by (bytes_eq t name) refl
  where
    by : (b : Bool) → bytes_eq t name ≡ b → has_tenant mid t ≡ (not (bytes_eq t name) && has_tenant old t)
    by true h =
        ap (has_tenant mid) (same_name t name h) ∙ ap is_some made.own
        ∙ sym (ap (λ b. not b && has_tenant old t) h)
    by false h =
        ap is_some (made.only.others t (other_name t name h)) ∙ sym (ap (λ b. not b && has_tenant old t) h)

left_by_line : (old mid : HostState) (t : List ℕ) (line : Line) (a : LineAnswer) → Lives old line a mid
    → has_tenant mid t ≡ is_left t (has_tenant old t) line a
left_by_line old mid t =
    by_kind old mid (λ line a. has_tenant mid t ≡ is_left t (has_tenant old t) line a) (record {
      happens = λ e a answers. there_by_names old mid t answers.same.names;
      adds = λ name cluster quota first made. there_added old mid t name cluster quota first made;
      resizes = λ name quota made. there_by_names old mid t made.names;
      removes = λ name made. there_removed old mid t name made;
      no_add = λ name cluster quota first f is. there_still old mid t is;
      no_resize = λ name quota f is. there_still old mid t is;
      no_remove = λ name f is. there_still old mid t is;
    })

-- a line that is not about a tenant leaves its machine
not_about : (old mid : HostState) (t : List ℕ) (line : Line) (a : LineAnswer) → Lives old line a mid
    → is_about t line ≡ false → machine_at mid t ≡ machine_at old t
not_about old mid t =
    by_kind old mid (λ line a. is_about t line ≡ false → machine_at mid t ≡ machine_at old t) (record {
      happens = λ e a answers. answers.others t;
      adds = λ name cluster quota first made h. made.others t (other_name t name h);
      resizes = λ name quota made h. made.only.others t (other_name t name h);
      removes = λ name made h. made.only.others t (other_name t name h);
      no_add = λ name cluster quota first f is h. ap (λ n. machine_at n t) is;
      no_resize = λ name quota f is h. ap (λ n. machine_at n t) is;
      no_remove = λ name f is h. ap (λ n. machine_at n t) is;
    })

as_many : (old mid : HostState) (line : Line) (a : LineAnswer) → Lives old line a mid → mid.segments ≡ old.segments
as_many old mid =
    by_kind old mid (λ line a. mid.segments ≡ old.segments) (record {
      happens = λ e a answers. answers.same.segments;
      adds = λ name cluster quota first made. made.segments;
      resizes = λ name quota made. made.only.segments;
      removes = λ name made. made.only.segments;
      no_add = λ name cluster quota first f is. ap (λ (n : HostState). n.segments) is;
      no_resize = λ name quota f is. ap (λ (n : HostState). n.segments) is;
      no_remove = λ name f is. ap (λ (n : HostState). n.segments) is;
    })

-- ---- one line, and what its event is told

-- the tenant of an event is the one that it names
there_of : (h : HostState) (t : List ℕ) (e : Event) → is_of t e ≡ true → is_there h e ≡ has_tenant h t
there_of h t (Called method target body) mine = by (target_of target) mine
  where
    by : (o : Option Target) → names t o ≡ true → is_target_there h o ≡ has_tenant h t
    by None k = absurd (true≢false (sym k))
    by (Some found) k = ap (has_tenant h) (sym (same_name t found.tenant k))
there_of h t (Stepped u step) mine = ap (has_tenant h) (sym (same_name t u mine))

-- an event that names no tenant finds none
named_none : (h : HostState) (e : Event) → ((t : List ℕ) → is_of t e ≡ false) → is_there h e ≡ false
named_none h (Called method target body) none = by (target_of target) none
  where
    by : (o : Option Target) → ((t : List ℕ) → names t o ≡ false) → is_target_there h o ≡ false
    by None k = refl
    by (Some found) k =
        absurd (true≢false (sym ((bytes_decides found.tenant found.tenant).1 refl) ∙ k found.tenant))
named_none h (Stepped u step) none = absurd (true≢false (sym ((bytes_decides u u).1 refl) ∙ none u))

-- what holds of the event of a line that has one, with its answer
line_event : (old mid : HostState) (P : Turn → Type 0)
    → ((e : Event) (a : Answer) → Answers old e a mid → P (record { event = e; answer = a }))
    → (line : Line) (a : LineAnswer) → Lives old line a mid → (rest : List Turn) → AllByRecursion P rest
    → AllByRecursion P (cons_option (turn_by line a) rest)
line_event old mid P each =
    by_kind old mid
    (λ line a. (rest : List Turn) → AllByRecursion P rest → AllByRecursion P (cons_option (turn_by line a) rest))
    (record {
      happens = λ e a answers rest all. (each e a answers, all);
      adds = λ name cluster quota first made rest all. all;
      resizes = λ name quota made rest all. all;
      removes = λ name made rest all. all;
      no_add = λ name cluster quota first f is rest all. all;
      no_resize = λ name quota f is rest all. all;
      no_remove = λ name f is rest all. all;
    })

-- ---- many lines

absent_told : (old new : HostState) (xs : List LineTurn) (t : List ℕ) (there : Bool) → AreLived old xs new
    → has_tenant old t ≡ there → IsNobody t there xs
absent_told old new [] t there is h = tt
absent_told old new (x ∷ xs) t there (mid, lives, rest) h = (
  λ none. line_event old mid
      (λ e. is_of t e.event ≡ true → is_unanswered e.answer ≡ false → e.answer ≡ text (Refused (nobody e.event)))
      (λ e a answers mine. (answers.none (there_of old t e mine ∙ h ∙ none)).1) x.line x.answer lives [] tt,
  absent_told mid new xs t (is_left t there x.line x.answer) rest
      (left_by_line old mid t x.line x.answer lives ∙ ap (λ b. is_left t b x.line x.answer) h),
)

nameless_told : (old new : HostState) (xs : List LineTurn) → AreLived old xs new
    → AllByRecursion (λ x. ((t : List ℕ) → is_of t x.event ≡ false) → is_unanswered x.answer ≡ false
    → x.answer ≡ text (Refused (nobody x.event))) (turns xs)
nameless_told old new [] is = tt
nameless_told old new (x ∷ xs) (mid, lives, rest) =
    line_event old mid
    (λ e. ((t : List ℕ) → is_of t e.event ≡ false) → is_unanswered e.answer ≡ false
    → e.answer ≡ text (Refused (nobody e.event)))
    (λ e a answers none. (answers.none (named_none old e none)).1) x.line x.answer lives (turns xs)
    (nameless_told mid new xs rest)

memory_told : (old new : HostState) (xs : List LineTurn) → AreLived old xs new
    → AllByRecursion (λ x. is_unanswered x.answer ≡ true → x.answer ≡ memory_answer) (turns xs)
memory_told old new [] is = tt
memory_told old new (x ∷ xs) (mid, lives, rest) =
    line_event old mid (λ e. is_unanswered e.answer ≡ true → e.answer ≡ memory_answer)
    (λ e a answers unanswered. (answers.memory unanswered).1) x.line x.answer lives (turns xs)
    (memory_told mid new xs rest)

left_there : (old new : HostState) (xs : List LineTurn) (t : List ℕ) (there : Bool) → AreLived old xs new
    → has_tenant old t ≡ there → has_tenant new t ≡ is_left_by t there xs
left_there old new [] t there is h = ap (λ n. has_tenant n t) is ∙ h
left_there old new (x ∷ xs) t there (mid, lives, rest) h =
    left_there mid new xs t (is_left t there x.line x.answer) rest
    (left_by_line old mid t x.line x.answer lives ∙ ap (λ b. is_left t b x.line x.answer) h)

others_still : (old new : HostState) (xs : List LineTurn) (t : List ℕ) → AreLived old xs new
    → AllByRecursion (λ x. is_about t x.line ≡ false) xs → machine_at new t ≡ machine_at old t
others_still old new [] t is apart = ap (λ h. machine_at h t) is
others_still old new (x ∷ xs) t (mid, lives, rest) apart =
    others_still mid new xs t rest apart.1 ∙ not_about old mid t x.line x.answer lives apart.0

still_as_many : (old new : HostState) (xs : List LineTurn) → AreLived old xs new → new.segments ≡ old.segments
still_as_many old new [] is = ap (λ (h : HostState). h.segments) is
still_as_many old new (x ∷ xs) (mid, lives, rest) =
    still_as_many mid new xs rest ∙ as_many old mid x.line x.answer lives

pub all_lived : (old new : HostState) (xs : List LineTurn) → AreLived old xs new → AllLived old xs new
all_lived old new xs is = record {
  lived = is;
  alone = λ t S later from. stretch_alone old new xs later t S is from;
  absent = λ t. absent_told old new xs t (has_tenant old t) is refl;
  nameless = nameless_told old new xs is;
  memory = memory_told old new xs is;
  there = λ t. left_there old new xs t (has_tenant old t) is refl;
  others = λ t apart. others_still old new xs t is apart;
  segments = still_as_many old new xs is;
}

-- ---- one more

pub lived_push : (old mid new : HostState) (xs : List LineTurn) (x : LineTurn) → AreLived old xs mid
    → Lives mid x.line x.answer new → AreLived old (xs ++ x ∷ []) new
lived_push old mid new [] x is lives = (new, subst (λ h. Lives h x.line x.answer new) is lives, refl)
lived_push old mid new (y ∷ xs) x (next, first, rest) lives = (next, first, lived_push next mid new xs x rest lives)

line_turns_of-push : (ls : List HostLine) (l : HostLine) (as' : List LineAnswer) (a : LineAnswer)
    → length as' ≡ length ls
    → line_turns_of (ls ++ l ∷ []) (as' ++ a ∷ []) ≡ line_turns_of ls as' ++ line_turn (line_of l) a ∷ []
line_turns_of-push [] l [] a h = refl
line_turns_of-push [] l (b ∷ bs) a h = absurd (omega arith)
line_turns_of-push (k ∷ ls) l [] a h = absurd (omega arith)
line_turns_of-push (k ∷ ls) l (b ∷ bs) a h =
    let same : length bs ≡ length ls = omega arith in
    ap (λ xs. line_turn (line_of k) b ∷ xs) (line_turns_of-push ls l bs a same)

-- one more line in a list of them
pub lived_more : (old mid new : HostState) (ls : List HostLine) (i : ℕ) (l : HostLine)
    (as' : List LineAnswer) (a : LineAnswer)
    → AreLived old (line_turns_of (take i ls) as') mid → Lives mid (line_of l) a new
    → length as' ≡ i → i < length ls → l ≡ get_or ls i l
    → AreLived old (line_turns_of (take (i + 1) ls) (as' ++ a ∷ [])) new
lived_more old mid new ls i l as' a before lives count within is =
    let more : take (i + 1) ls ≡ take i ls ++ l ∷ [] =
    take_more ls i l within ∙ ap (λ f. take i ls ++ f ∷ []) (sym is) in
    let same : line_turns_of (take (i + 1) ls) (as' ++ a ∷ []) ≡ line_turns_of (take i ls) as' ++ line_turn (line_of l) a ∷ [] =
    ap (λ fs. line_turns_of fs (as' ++ a ∷ [])) more
    ∙ line_turns_of-push (take i ls) l as' a (count ∙ sym (length-take-le i ls (omega arith))) in
    subst (λ xs. AreLived old xs new) (sym same)
    (lived_push old mid new (line_turns_of (take i ls) as') (line_turn (line_of l) a) before lives)
