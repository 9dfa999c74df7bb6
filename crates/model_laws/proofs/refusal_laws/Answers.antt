use Rattle.etcd_model.specs.Machine.{history}
use Rattle.model_laws.proofs.RefusedLaws.{refused_step, least_number, most_number}
use Rattle.model_laws.proofs.Spoken.{machine_speaks}
use Rattle.model_laws.proofs.refusal_laws.Goals as goal

pub returns : goal.returns
returns c = record {
  refused_step = refused_step;
  never_memory = λ S step. machine_speaks history S step;
  least_number = least_number;
  most_number = most_number;
}
