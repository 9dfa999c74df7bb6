use Rattle.std.proofs.Common.{◌≡◌, ℕ, IfOk, List, ap, subst}
use Rattle.etcd_model.specs.Pool.{StockState}
use Rattle.segment_pool.proofs.SupplyLaws.{from_zero}
use Rattle.segment_pool.proofs.stock.Stock.new.Goals as goal

pub returns : goal.returns
returns c =
    subst (λ (s : StockState). IfOk c.numbered.result (λ stock. stock ≡ s))
    (ap (λ (numbers : List ℕ). record { held = c.args.segments; room = 0; numbers = numbers }) (from_zero c.args.segments)) c.numbered.ensures
