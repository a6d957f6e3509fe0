mod IdentityRows
mod Passing
