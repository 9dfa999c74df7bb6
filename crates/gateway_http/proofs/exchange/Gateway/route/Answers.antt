use Rattle.std.proofs.Common.{◌∙◌, ap, subst}
use Rattle.http.specs.Request.{head_of}
use Rattle.http_uri.specs.Uri.{uri_path}
use Rattle.gateway_http.specs.Requests.{IsUnrouted}
use Rattle.gateway_http.proofs.exchange.Gateway.route.Goals as goal

pub returns-in-Err : goal.returns-in-Err
returns-in-Err g c =
    let method = c.as_bytes-method.ensures.value ∙ c.as_str.ensures.value ∙ c.method.ensures in
    let path = c.as_bytes-path.ensures.value ∙ c.path.ensures.value ∙ ap uri_path c.uri.ensures
    in subst (λ m. IsUnrouted m (uri_path (head_of c.args.req.now).uri) c.in-Err.refusal) method (subst (λ t. IsUnrouted c.as_bytes-method.result.now t c.in-Err.refusal) path c.in-Err.ensures)
