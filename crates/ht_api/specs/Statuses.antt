-- The status of each answer (RFC 9110, 15).
use Rattle.std.specs.Prelude.{ℕ}
use Rattle.ht_base.specs.declared.reply.Answer.{Answer}
use Rattle.ht_base.specs.declared.reply.Answer.TheVariants.{Done, Turned, Sheet, Page, Notices, Refused}
use Rattle.ht_base.specs.declared.reply.Refusal.{Refusal}
use Rattle.ht_base.specs.declared.reply.Refusal.TheVariants as refusal

abbrev pub refusal_status : Refusal → ℕ
refusal_status refusal.Head = 400
refusal_status refusal.Fields = 431
refusal_status refusal.Coding = 501
refusal_status refusal.Body = 413
refusal_status refusal.Route = 404
refusal_status refusal.Method = 405
refusal_status refusal.Json = 400
refusal_status (refusal.Field key) = 400
refusal_status refusal.Person = 401
refusal_status (refusal.NumberStale last) = 409
refusal_status (refusal.NumberReused last) = 409
refusal_status (refusal.Task task) = 404
refusal_status (refusal.Role needs) = 403
refusal_status (refusal.State allowed state) = 409
refusal_status (refusal.Unknown what) = 422
refusal_status (refusal.PartRefused part) = 422
refusal_status refusal.Ownerless = 422
refusal_status refusal.ByGroup = 422
refusal_status (refusal.Excluded person) = 422
refusal_status (refusal.NotDelegatee person) = 422
refusal_status refusal.NoOwners = 422
refusal_status (refusal.NoOutput part) = 422
refusal_status refusal.NotSkipable = 422
refusal_status refusal.UntilPast = 422
refusal_status (refusal.SubRefused sub) = 422
refusal_status (refusal.Limit limit) = 507
refusal_status refusal.Store = 503
refusal_status refusal.Spent = 503
refusal_status refusal.Memory = 500

abbrev pub answer_status : Answer → ℕ
answer_status (Done task state owner) = 200
answer_status Turned = 200
answer_status (Sheet s) = 200
answer_status (Page p) = 200
answer_status (Notices p) = 200
answer_status (Refused why) = refusal_status why
