-- No answer but that of want of memory has its status.
use Rattle.std.proofs.Common.{◌≡◌, ◌≢◌, ◌∙◌, sym, ap, refl, Bool, true, false}
use Rattle.std.proofs.lemmas.Bool.{true≢false}
use borrow.Author.Tests.{eqb-true}
use Rattle.etcd_types.specs.declared.refusal.Refusal.{Refusal}
use Rattle.etcd_types.specs.declared.refusal.Refusal.TheVariants.{Memory}
use Rattle.etcd_types.specs.declared.reply.Reply.{Reply}
use Rattle.etcd_types.specs.declared.reply.Reply.TheVariants.{Refused}
use Rattle.etcd_model.specs.ReplyText.{Answer, text}
use Rattle.etcd_model.specs.Alone.{is_unanswered}
use Rattle.gateway_text.proofs.AnswerLaws.{status_of_memory}

-- a text that has its status is that of its refusal
pub text_of_memory : (r : Reply) (a : Answer) → a ≡ text r → is_unanswered a ≡ true → r ≡ Refused Memory
text_of_memory r a is unanswered =
    status_of_memory r (sym (ap (λ (b : Answer). b.status) is) ∙ eqb-true a.status 503 unanswered)

-- any other text is of a reply that found its memory
pub text_answered : (r : Reply) (a : Answer) → a ≡ text r → r ≢ Refused Memory → is_unanswered a ≡ false
text_answered r a is spoken = by (is_unanswered a) refl
  where
    by : (b : Bool) → is_unanswered a ≡ b → is_unanswered a ≡ false
    by false h = h
    by true h = absurd (spoken (text_of_memory r a is h))

-- want of memory is a refusal like others
pub refused_answered : (r : Refusal) (a : Answer) → is_unanswered a ≡ false → a ≡ text (Refused r) → r ≢ Memory
refused_answered r a answered is = λ memory.
    true≢false (sym (ap is_unanswered (is ∙ ap (λ (q : Refusal). text (Refused q)) memory)) ∙ answered)
