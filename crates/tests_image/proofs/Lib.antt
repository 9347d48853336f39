mod InOrder
mod NoFiles
