use Rattle.std.proofs.Common.{◌≡◌, ◌∙◌, ap, sym, subst, Some, None, arith}
use Rattle.std.specs.Option.{option_map}
use Rattle.std.specs.Map.{lookup}
use Rattle.tenant_machine.specs.Plans.{Fits, IsAfter}
use Rattle.steps_core.specs.Hosts.{HostState, machine_at, names_of, reserved_segments}
use Rattle.steps_core.specs.Sound.{IsHost, host_of}
use Rattle.etcd_model.proofs.NamedLaws.{test, own_set, others_set}
use Rattle.steps_core.proofs.Shown.{shown, shown_at, machine_in}
use Rattle.steps_core.proofs.Served.{can_serve, served, names_set, reserved_set}
use Rattle.steps_core.proofs.host.Host.commit.Goals as goal

pub serve-requires-clause-can : goal.serve-requires-clause-can
serve-requires-clause-can c = can_serve c.args.tenant.now c.self.inside.tenants.entries c.self.inside.desk c.in-Some.tenant.now c.self.invariant (sym c.in-Some.ensures.value)

pub serve-requires-clause-fits : goal.serve-requires-clause-fits
serve-requires-clause-fits c =
    let at : machine_at c.args.self.now c.args.tenant.now ≡ Some c.in-Some.tenant.now.machine = shown_at c.args.tenant.now c.self.inside.tenants.entries c.self.inside.desk _ _ c.self.view_is c.in-Some.ensures.value in
    let same : c.requires.machine ≡ c.in-Some.tenant.now.machine = cc (at, c.requires.is) in
    subst (λ m. Fits m c.args.planned) same c.requires.fits

pub invariant_of-self : goal.invariant_of-self
invariant_of-self c = subst (λ es. IsHost es c.serve.new.desk) (sym (c.get_mut.follows.holds c.serve.new.tenant).0)
    (served c.args.tenant.now c.self.inside.tenants.entries c.self.inside.desk c.serve.new.desk c.in-Some.tenant.now c.serve.new.tenant c.self.invariant (sym c.in-Some.ensures.value) c.serve.ensures.leaves)

pub unreachable-requires : goal.unreachable-requires
unreachable-requires c =
    let none : machine_at c.args.self.now c.args.tenant.now ≡ None = shown_at c.args.tenant.now c.self.inside.tenants.entries c.self.inside.desk _ _ c.self.view_is c.in-None.ensures.value in
    cc (none, c.requires.is)

pub returns-clause-after : goal.returns-clause-after
returns-clause-after c =
    let t = c.args.tenant.now in
    let es = c.self.inside.tenants.entries in
    let w = c.serve.new.tenant in
    let set = (c.get_mut.follows.holds w).0 in
    let at : machine_at c.args.self.now t ≡ Some c.in-Some.tenant.now.machine = shown_at t es c.self.inside.desk _ _ c.self.view_is c.in-Some.ensures.value in
    let own = shown t _ c.serve.new.desk ∙ ap (λ es. option_map machine_in (lookup (test t) es)) set ∙ ap (option_map machine_in) (own_set t es _ w (sym c.in-Some.ensures.value)) in
    record {
      own = λ m h. let same : c.in-Some.tenant.now.machine ≡ m = cc (at, h) in (w.machine, own, subst (λ m. IsAfter m c.args.planned w.machine) same c.serve.ensures.after);
      others = record {
        machines = λ u differ. shown u _ c.serve.new.desk ∙ ap (λ es. option_map machine_in (lookup (test u) es)) set ∙ ap (option_map machine_in) (others_set t u es w differ) ∙ sym (shown u es c.self.inside.desk) ∙ ap (λ (h : HostState). machine_at h u) c.self.view_is;
        same = record {
          names = ap (λ es. names_of (host_of es c.serve.new.desk)) set ∙ names_set t es c.self.inside.desk c.serve.new.desk w ∙ ap names_of c.self.view_is;
          reserved = ap (λ es. reserved_segments (host_of es c.serve.new.desk)) set ∙ reserved_set t es c.self.inside.desk c.serve.new.desk c.in-Some.tenant.now w c.self.invariant (sym c.in-Some.ensures.value) c.serve.ensures.leaves ∙ ap reserved_segments c.self.view_is;
          segments = (omega (arith, c.serve.ensures.leaves.free, c.serve.ensures.leaves.out)) ∙ ap (λ (h : HostState). h.segments) c.self.view_is;
        };
      };
    }
