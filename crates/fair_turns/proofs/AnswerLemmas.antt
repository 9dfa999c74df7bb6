-- How an answer comes about: from a receipt, from a refusal, and where there is no memory.
use Rattle.std.specs.Prelude.{Some, None, IfSome}
use Rattle.std.proofs.Common.{◌≡◌, ◌∙◌, sym, subst, refl, ℕ, false, List}
use Rattle.std.proofs.lemmas.Grind.{merely}
use Rattle.etcd_types.specs.declared.step.Step.{Step}
use Rattle.etcd_types.specs.declared.step.Step.TheVariants.{Take}
use Rattle.etcd_types.specs.declared.refusal.Refusal.TheVariants.{Memory}
use Rattle.tenant_audit.specs.Receipts.{Slip}
use Rattle.tenant_calls.specs.Answers.{IsTold}
use Rattle.fair_turns.specs.declared.answer.Answer.{Answer}
use Rattle.fair_turns.specs.declared.watch_texts.WatchTexts.{WatchTexts}
use Rattle.fair_turns.specs.Answers.{Conveys, Spells, Refuses, AreOf, IsAnswer, Replied, Uncalled}
use Rattle.fair_turns.specs.Watching.{IsTaken}

-- ---- of a step

told : {R : Type 0} (number : ℕ) (step : Step) (slip : Slip) (answer : Answer R) (t : IsTold number step slip) → Conveys answer slip → Spells answer t.reply
told number step slip answer t shows = record {
  status = shows.status ∙ t.told.status;
  text = shows.text ∙ t.told.body;
  refusal = shows.refusal ∙ t.told.refusal;
}

-- an answer that shows what a receipt has, which nothing follows
pub replied : {R : Type 0} (number : ℕ) (step : Step) (slip : Slip) (answer : Answer R) → IsTold number step slip → Conveys answer slip → answer.following ≡ None → IsAnswer number step answer
replied number step slip answer t shows last = Replied t.reply t.is (told number step slip answer t shows) (subst (λ f. IfSome f (AreOf number t.reply)) (sym last) tt)

-- one that the texts of the watch follow which was created
pub created : {R : Type 0} (number : ℕ) (step : Step) (slip : Slip) (answer : Answer R) (texts : WatchTexts R) → IsTold number step slip → Conveys answer slip → answer.following ≡ Some texts → texts.tenant ≡ number → slip.slot ≡ Some texts.slot → IsAnswer number step answer
created number step slip answer texts t shows follow tenant slot = Replied t.reply t.is (told number step slip answer t shows) (subst (λ f. IfSome f (AreOf number t.reply)) (sym follow) (record { tenant = tenant; slot = sym t.told.slot ∙ slot }))

pub out_of_memory : {R : Type 0} (number : ℕ) (step : Step) (answer : Answer R) → Refuses Memory answer → IsAnswer number step answer
out_of_memory number step answer told = Uncalled Memory (false, refl) told

-- ---- of a watch

pub taken : (tenant slot : ℕ) (slip : Slip) (text : List ℕ) → IsTold tenant (Take slot) slip → text ≡ slip.body → ∥ IsTaken tenant slot text ∥₁
taken tenant slot slip text t same = merely (record { reply = t.reply; is = t.is; text_is = same ∙ t.told.body })

pub of_the_same_watch : (tenant slot theirs its : ℕ) (text : List ℕ) → theirs ≡ tenant → its ≡ slot → ∥ IsTaken theirs its text ∥₁ → ∥ IsTaken tenant slot text ∥₁
of_the_same_watch tenant slot theirs its text same is taken = subst (λ t. ∥ IsTaken t slot text ∥₁) same (subst (λ s. ∥ IsTaken theirs s text ∥₁) is taken)
