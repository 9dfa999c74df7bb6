-- What a client is told of a refusal: its number, the code of gRPC, the status of HTTP, and a text.
use Rattle.std.specs.Prelude.{ℕ, List, codes}
use Rattle.etcd_types.specs.declared.refusal.Refusal.{Refusal}
use Rattle.etcd_types.specs.declared.refusal.Refusal.TheVariants.{NoKey, ValueGiven, LeaseGiven, KeyNotFound}
use Rattle.etcd_types.specs.declared.refusal.Refusal.TheVariants.{TooManyOps, DuplicateKey, Compacted, Future}
use Rattle.etcd_types.specs.declared.refusal.Refusal.TheVariants.{NoSpace, LeaseNotFound, LeaseExists}
use Rattle.etcd_types.specs.declared.refusal.Refusal.TheVariants.{TtlTooLarge, TooLarge, BadBody, NotOffered}
use Rattle.etcd_types.specs.declared.refusal.Refusal.TheVariants.{NoTenant, NoPath, NotPost, TooManyWatches}
use Rattle.etcd_types.specs.declared.refusal.Refusal.TheVariants.{UsedUp, Memory}

abbrev pub refusal_number : Refusal → ℕ
refusal_number NoKey = 1
refusal_number ValueGiven = 2
refusal_number LeaseGiven = 3
refusal_number KeyNotFound = 4
refusal_number TooManyOps = 5
refusal_number DuplicateKey = 6
refusal_number Compacted = 7
refusal_number Future = 8
refusal_number NoSpace = 9
refusal_number LeaseNotFound = 10
refusal_number LeaseExists = 11
refusal_number TtlTooLarge = 12
refusal_number TooLarge = 13
refusal_number BadBody = 14
refusal_number NotOffered = 15
refusal_number NoTenant = 16
refusal_number NoPath = 17
refusal_number NotPost = 18
refusal_number TooManyWatches = 19
refusal_number UsedUp = 20
refusal_number Memory = 21

-- invalid argument 3, not found 5, resource exhausted 8, failed precondition 9, out of range 11,
-- unimplemented 12, unavailable 14
abbrev pub refusal_code : Refusal → ℕ
refusal_code NoKey = 3
refusal_code ValueGiven = 3
refusal_code LeaseGiven = 3
refusal_code KeyNotFound = 3
refusal_code TooManyOps = 3
refusal_code DuplicateKey = 3
refusal_code Compacted = 11
refusal_code Future = 11
refusal_code NoSpace = 8
refusal_code LeaseNotFound = 5
refusal_code LeaseExists = 9
refusal_code TtlTooLarge = 11
refusal_code TooLarge = 3
refusal_code BadBody = 3
refusal_code NotOffered = 12
refusal_code NoTenant = 5
refusal_code NoPath = 5
refusal_code NotPost = 12
refusal_code TooManyWatches = 8
refusal_code UsedUp = 8
refusal_code Memory = 14

abbrev pub refusal_status : Refusal → ℕ
refusal_status NoKey = 400
refusal_status ValueGiven = 400
refusal_status LeaseGiven = 400
refusal_status KeyNotFound = 400
refusal_status TooManyOps = 400
refusal_status DuplicateKey = 400
refusal_status Compacted = 400
refusal_status Future = 400
refusal_status NoSpace = 429
refusal_status LeaseNotFound = 404
refusal_status LeaseExists = 400
refusal_status TtlTooLarge = 400
refusal_status TooLarge = 400
refusal_status BadBody = 400
refusal_status NotOffered = 501
refusal_status NoTenant = 404
refusal_status NoPath = 404
refusal_status NotPost = 405
refusal_status TooManyWatches = 429
refusal_status UsedUp = 429
refusal_status Memory = 503

abbrev pub refusal_text : Refusal → List ℕ
refusal_text NoKey = codes "etcdserver: key is not provided"
refusal_text ValueGiven = codes "etcdserver: value is provided"
refusal_text LeaseGiven = codes "etcdserver: lease is provided"
refusal_text KeyNotFound = codes "etcdserver: key not found"
refusal_text TooManyOps = codes "etcdserver: too many operations in txn request"
refusal_text DuplicateKey = codes "etcdserver: duplicate key given in txn request"
refusal_text Compacted = codes "etcdserver: mvcc: required revision has been compacted"
refusal_text Future = codes "etcdserver: mvcc: required revision is a future revision"
refusal_text NoSpace = codes "etcdserver: mvcc: database space exceeded"
refusal_text LeaseNotFound = codes "etcdserver: requested lease not found"
refusal_text LeaseExists = codes "etcdserver: lease already exists"
refusal_text TtlTooLarge = codes "etcdserver: too large lease TTL"
refusal_text TooLarge = codes "etcdserver: request is too large"
refusal_text BadBody = codes "etcd_host: the body can't be read"
refusal_text NotOffered = codes "etcd_host: not offered"
refusal_text NoTenant = codes "etcd_host: no such tenant"
refusal_text NoPath = codes "etcd_host: no such path"
refusal_text NotPost = codes "etcd_host: POST is wanted"
refusal_text TooManyWatches = codes "etcd_host: too many watches"
refusal_text UsedUp = codes "etcd_host: revisions are used up"
refusal_text Memory = codes "etcd_host: out of memory"
